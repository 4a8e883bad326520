use Rattle.std.proofs.Common.{◌≡◌, ◌≤◌, ◌++◌, drop, length}
use Rattle.ser_values.specs.Node.{field_wants}
use Rattle.ser_values.specs.Walk.{wanted, stacked}
use Rattle.ser_values.proofs.walking.push_fields.Given as goal

abbrev pub invariant-loop-i : goal.invariant-loop-i
invariant-loop-i l = record {
  within : l.i ≤ length l.fields;
  told : stacked l.stack.items ≡ wanted l.left (field_wants (drop l.i l.fields)) ++ stacked l.fn.stack.items;
}

abbrev pub decreases-loop-i : goal.decreases-loop-i
decreases-loop-i l = l.i
