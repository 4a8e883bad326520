use Rattle.std.proofs.Common.{◌≡◌, ◌≤◌, ◌++◌, drop, length}
use Rattle.ser_values.specs.Node.{item_wants}
use Rattle.ser_values.specs.Walk.{wanted, stacked}
use Rattle.ser_values.proofs.walking.push_items.Given as goal

abbrev pub invariant-loop-i : goal.invariant-loop-i
invariant-loop-i l = record {
  within : l.i ≤ length l.items;
  told : stacked l.stack.items ≡ wanted l.left (item_wants (drop l.i l.items)) ++ stacked l.fn.stack.items;
}

abbrev pub decreases-loop-i : goal.decreases-loop-i
decreases-loop-i l = l.i
