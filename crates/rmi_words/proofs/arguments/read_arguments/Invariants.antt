use Rattle.std.proofs.Common.{length, ◌-◌, ◌++◌, ◌≤◌, List, drop, map}
use Rattle.rmi_words.specs.CallWords.{AreArguments}
use Rattle.rmi_words.specs.declared.call_words.Argument.{Argument}
use Rattle.rmi_words.proofs.arguments.read_arguments.Given as goal

abbrev pub invariant-loop-at : goal.invariant-loop-at
invariant-loop-at l = record {
  within : l.at ≤ length l.codes;
  told : (more : List Argument) → AreArguments (drop l.at l.codes) more (map (λ word. word.now) (drop l.at l.words))
      → AreArguments l.codes (l.arguments ++ more) (map (λ word. word.now) l.words);
}

abbrev pub decreases-loop-at : goal.decreases-loop-at
decreases-loop-at l = length l.codes - l.at
