use Rattle.std.proofs.Common.{take}
use Rattle.java_shapes.specs.Put.{Grows, NameTypes}
use Rattle.java_shapes.proofs.classes.put_types.Given as goal

abbrev pub invariant-loop-field : goal.invariant-loop-field
invariant-loop-field l = record {
  grown : Grows l.field-index l.initial.b l.b;
  named : NameTypes l.b (take l.field-index l.fields) l.texts;
}
