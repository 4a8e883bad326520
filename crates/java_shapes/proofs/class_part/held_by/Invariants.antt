use Rattle.std.proofs.Common.{◌≡◌, ◌≤◌, length}
use Rattle.java_shapes.specs.Objects.{held_within}
use Rattle.java_shapes.proofs.class_part.held_by.Given as goal

abbrev pub invariant-loop-left : goal.invariant-loop-left
invariant-loop-left l = record {
  within : l.left ≤ length l.parts;
  rest : held_within l.nodes l.name l.parts l.left l.slot ≡ held_within l.nodes l.name l.parts (length l.parts) l.fn.class;
}

abbrev pub decreases-loop-left : goal.decreases-loop-left
decreases-loop-left l = l.left
