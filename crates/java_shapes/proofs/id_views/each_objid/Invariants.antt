use Rattle.std.proofs.Common.{◌≡◌, drop}
use Rattle.java_shapes.specs.Objects.{each}
use Rattle.java_shapes.specs.Ids.{objid_at}
use Rattle.java_shapes.proofs.Each.{before}
use Rattle.java_shapes.proofs.id_views.each_objid.Given as goal

abbrev pub invariant-loop-slot : goal.invariant-loop-slot
invariant-loop-slot l = before l.ids (each (objid_at l.nodes) (drop l.slot-index l.slots)) ≡ each (objid_at l.nodes) l.slots
