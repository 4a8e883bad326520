use Rattle.std.proofs.Common.{◌≡◌, ◌++◌, map, take}
use Rattle.ser_values.specs.declared.node.Node.TheVariants as loose
use Rattle.suid_calc.specs.Description.{texts_in}
use Rattle.suid_calc.proofs.description.put_texts.Given as goal

abbrev pub invariant-loop-text : goal.invariant-loop-text
invariant-loop-text l = l.nodes ≡ l.initial.nodes ++ map (λ t. loose.Text t) (texts_in (take l.text-index l.texts))
