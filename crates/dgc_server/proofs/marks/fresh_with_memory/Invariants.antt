use Rattle.std.proofs.Common.{◌≡◌, ◌+◌, ◌≤◌, drop, filter, length, not}
use Rattle.indexmap.specs.IndexSet.{contains}
use Rattle.object_ids.specs.declared.ids.ObjId.{ObjId}
use Rattle.object_ids.specs.Same.{same_id, same_key}
use Rattle.history.specs.Lists.{distinct}
use Rattle.dgc_server.specs.Numbers.{is_remembered}
use Rattle.dgc_server.specs.Entry.{object_entries, numbers_of, is_in}
use Rattle.dgc_server.proofs.marks.fresh_with_memory.Given as goal

abbrev pub decreases-loop-i : goal.decreases-loop-i
decreases-loop-i l = l.i

abbrev pub invariant-loop-i : goal.invariant-loop-i
invariant-loop-i l =
    record {
      counted : l.count ≡ length (filter (λ o. not (is_remembered l.left (numbers_of (object_entries l.objects.entries) o))) (distinct same_id (drop l.i l.named)));
      seen : (o : ObjId) → contains same_key l.seen o ≡ is_in o (drop l.i l.named);
      within : l.count + l.i ≤ length l.named;
    }
