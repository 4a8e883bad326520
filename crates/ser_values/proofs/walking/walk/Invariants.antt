use Rattle.std.proofs.Common.{◌≡◌, length, []}
use Rattle.ser_values.specs.Node.{item_wants}
use Rattle.ser_values.specs.Seen.{IsKept}
use Rattle.ser_values.specs.Walk.{run, all, stacked, steps_of, end_of, visit_at}
use Rattle.ser_values.proofs.walking.walk.Given as goal

abbrev pub invariant-loop-task : goal.invariant-loop-task
invariant-loop-task l = record {
  kept : IsKept l.seen;
  count : length l.seen.marks.items ≡ length l.loose.nodes.now;
  told : end_of (run l.loose.nodes.now (stacked l.stack.items) l.seen.unread.items l.seen.order.items) ≡ end_of (all (visit_at l.loose.nodes.now l.levels []) (item_wants l.items) []);
}

abbrev pub decreases-loop-task : goal.decreases-loop-task
decreases-loop-task l = steps_of (run l.loose.nodes.now (stacked l.stack.items) l.seen.unread.items l.seen.order.items)
