use Rattle.std.proofs.Common.{◌≡◌, ◌+◌, ◌≤◌, drop, length}
use Rattle.std.specs.Prelude.{filter, not}
use Rattle.object_ids.specs.Same.{same_id}
use Rattle.history.specs.Lists.{distinct}
use Rattle.export_table.specs.Waits.{is_waiting}
use Rattle.space.proofs.returns.counted_one_by_one.Given as goal

abbrev pub invariant-loop-i : goal.invariant-loop-i
invariant-loop-i l =
    record {
      counted : l.count + length (filter (λ o. not (is_waiting l.now o l.uid l.exports.waits)) (distinct same_id (drop l.i l.live))) ≡ length (filter (λ o. not (is_waiting l.now o l.uid l.exports.waits)) (distinct same_id l.live));
      bound : l.count ≤ l.i;
    }
