use Rattle.std.proofs.Common.{◌≡◌, ◌≤◌, ◌++◌, drop, length}
use Rattle.ser_values.specs.Node.{slot_wants}
use Rattle.ser_values.specs.Walk.{wanted, stacked}
use Rattle.ser_values.proofs.walking.push_slots.Given as goal

abbrev pub invariant-loop-i : goal.invariant-loop-i
invariant-loop-i l = record {
  within : l.i ≤ length l.slots;
  told : stacked l.stack.items ≡ wanted l.left (slot_wants (drop l.i l.slots)) ++ stacked l.fn.stack.items;
}

abbrev pub decreases-loop-i : goal.decreases-loop-i
decreases-loop-i l = l.i
