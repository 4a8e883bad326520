use Rattle.std.proofs.Common.{◌≡◌, ◌++◌, take, flat_map}
use Rattle.std.specs.List.{AllByRecursion}
use Rattle.journal.specs.Rows.{further_text, WordFits}
use Rattle.journal.proofs.outline.put_further_words.Given as goal

abbrev pub invariant-loop-word : goal.invariant-loop-word
invariant-loop-word l = (l.out ≡ l.initial.out ++ flat_map further_text (take l.word-index l.words)) × AllByRecursion WordFits (take l.word-index l.words)
