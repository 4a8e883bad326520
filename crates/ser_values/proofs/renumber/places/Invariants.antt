use Rattle.std.proofs.Common.{◌≡◌, ◌≤◌, length, drop}
use Rattle.ser_values.specs.Renumber.{HasPlaces}
use Rattle.ser_values.proofs.renumber.places.Given as goal

abbrev pub invariant-loop-i : goal.invariant-loop-i
invariant-loop-i l = record {
  within : l.i ≤ length l.order;
  count : length l.places.items ≡ l.count;
  placed : HasPlaces (drop l.i l.order) l.i l.places.items;
}

abbrev pub decreases-loop-i : goal.decreases-loop-i
decreases-loop-i l = l.i
