use Rattle.std.proofs.Common.{◌≡◌, ◌+◌, ◌≤◌, drop, length}
use Rattle.std.specs.Prelude.{filter, not}
use Rattle.indexmap.specs.IndexSet.{contains}
use Rattle.object_ids.specs.declared.ids.ObjId.{ObjId}
use Rattle.object_ids.specs.Same.{same_id, same_key}
use Rattle.history.specs.Lists.{distinct}
use Rattle.dgc_server.specs.Entry.{is_in}
use Rattle.export_table.specs.Waits.{is_waiting}
use Rattle.space.proofs.returns.counted_from_last.Given as goal

abbrev pub decreases-loop-i : goal.decreases-loop-i
decreases-loop-i l = l.i

abbrev pub invariant-loop-i : goal.invariant-loop-i
invariant-loop-i l =
    record {
      counted : l.count ≡ length (filter (λ o. not (is_waiting l.now o l.uid l.exports.waits)) (distinct same_id (drop l.i l.live)));
      seen : (o : ObjId) → contains same_key l.seen o ≡ is_in o (drop l.i l.live);
      within : l.count + l.i ≤ length l.live;
    }
