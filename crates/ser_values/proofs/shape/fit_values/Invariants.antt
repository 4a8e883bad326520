use Rattle.std.proofs.Common.{◌≡◌, ◌≤◌, ◌-◌, drop, length}
use Rattle.ser_values.specs.Shape.{fit_values}
use Rattle.ser_values.proofs.shape.fit_values.Given as goal

abbrev pub invariant-loop-i : goal.invariant-loop-i
invariant-loop-i l = record {
  within : l.i ≤ length l.fields;
  told : fit_values (drop l.i l.fields) (drop l.i l.values) ≡ fit_values l.fields l.values;
}

abbrev pub decreases-loop-i : goal.decreases-loop-i
decreases-loop-i l = length l.fields - l.i
