use Rattle.std.proofs.Common.{take}
use Rattle.java_shapes.specs.Put.{Grows}
use Rattle.java_shapes.specs.Shapes.{AreTexts}
use Rattle.java_shapes.proofs.name_lists.put_each.Given as goal

abbrev pub invariant-loop-name : goal.invariant-loop-name
invariant-loop-name l = record {
  grown : Grows l.name-index l.initial.b l.b;
  are : AreTexts l.b (take l.name-index l.names) l.texts;
}
