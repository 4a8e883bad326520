use Rattle.std.proofs.Common.{◌≡◌, ◌+◌, ◌≤◌, drop, length}
use Rattle.ser_values.specs.Shape.{refs_in}
use Rattle.ser_values.proofs.counting.refs_in.Given as goal

abbrev pub invariant-loop-item : goal.invariant-loop-item
invariant-loop-item l = record {
  small : l.count ≤ l.item-index;
  told : l.count + refs_in (drop l.item-index l.items) ≡ refs_in l.items;
}
