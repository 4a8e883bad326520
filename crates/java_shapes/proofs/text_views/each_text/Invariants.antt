use Rattle.std.proofs.Common.{◌≡◌, drop}
use Rattle.java_shapes.specs.Objects.{each, text_at}
use Rattle.java_shapes.proofs.Each.{before}
use Rattle.java_shapes.proofs.text_views.each_text.Given as goal

abbrev pub invariant-loop-slot : goal.invariant-loop-slot
invariant-loop-slot l = before l.texts (each (text_at l.nodes) (drop l.slot-index l.slots)) ≡ each (text_at l.nodes) l.slots
