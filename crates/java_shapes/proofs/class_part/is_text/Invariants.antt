use Rattle.std.proofs.Common.{◌≡◌, ◌≤◌, ◌-◌, ◌&&◌, length, drop}
use Rattle.java_shapes.specs.Objects.{same_text}
use Rattle.java_shapes.proofs.class_part.is_text.Given as goal

abbrev pub invariant-loop-at : goal.invariant-loop-at
invariant-loop-at l = record {
  within : l.at ≤ length l.units;
  within_text : l.at ≤ length l.bytes;
  rest : (l.same && same_text (drop l.at l.units) (drop l.at l.bytes)) ≡ same_text l.units l.bytes;
}

abbrev pub decreases-loop-at : goal.decreases-loop-at
decreases-loop-at l = length l.units - l.at
