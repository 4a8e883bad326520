use Rattle.std.proofs.Common.{◌≡◌, ◌+◌, ◌≤◌, drop}
use Rattle.ser_values.specs.Shape.{sizes_in, notes_in}
use Rattle.ser_values.proofs.counting.object_parts.Given as goal

abbrev pub invariant-loop-part : goal.invariant-loop-part
invariant-loop-part l = record {
  small : l.total ≤ 1048576;
  told : l.total + (sizes_in (drop l.part-index l.parts) + notes_in (drop l.part-index l.parts)) ≡ sizes_in l.parts + notes_in l.parts;
}
