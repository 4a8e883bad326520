use Rattle.std.proofs.Common.{◌≡◌, ◌≤◌, ◌++◌, drop, length}
use Rattle.ser_values.specs.Node.{part_wants}
use Rattle.ser_values.specs.Walk.{wanted, stacked}
use Rattle.ser_values.proofs.walking.push_parts.Given as goal

abbrev pub invariant-loop-i : goal.invariant-loop-i
invariant-loop-i l = record {
  within : l.i ≤ length l.parts;
  told : stacked l.stack.items ≡ wanted l.left (part_wants (drop l.i l.parts)) ++ stacked l.fn.stack.items;
}

abbrev pub decreases-loop-i : goal.decreases-loop-i
decreases-loop-i l = l.i
