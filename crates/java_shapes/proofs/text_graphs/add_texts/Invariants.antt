use Rattle.std.proofs.Common.{◌≡◌, ◌++◌, drop, map}
use Rattle.ser_values.specs.declared.node.Node.TheVariants.{Text}
use Rattle.java_shapes.proofs.text_graphs.add_texts.Given as goal

abbrev pub invariant-loop-name : goal.invariant-loop-name
invariant-loop-name l = l.nodes ++ map (λ name. Text name) (drop l.name-index l.names) ≡ l.initial.nodes ++ map (λ name. Text name) l.names
