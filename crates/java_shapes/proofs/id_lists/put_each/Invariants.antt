use Rattle.std.proofs.Common.{take, ◌*◌}
use Rattle.java_shapes.specs.Put.{Grows}
use Rattle.java_shapes.specs.Shapes.{AreIds}
use Rattle.java_shapes.proofs.id_lists.put_each.Given as goal

abbrev pub invariant-loop-id : goal.invariant-loop-id
invariant-loop-id l = record {
  grown : Grows (2 * l.id-index) l.initial.b l.b;
  are : AreIds l.b l.id_class l.uid_class (take l.id-index l.ids) l.objects;
}
