use Rattle.std.proofs.Common.{◌≡◌, false, drop}
use Rattle.ser_values.specs.Shape.{joined_from}
use Rattle.ser_values.proofs.shape.is_joined.Given as goal

abbrev pub invariant-loop-item : goal.invariant-loop-item
invariant-loop-item l = joined_from l.after (drop l.item-index l.items) ≡ joined_from false l.items
