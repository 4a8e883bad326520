use Rattle.std.proofs.Common.{◌≡◌, ◌+◌, ◌≤◌, drop, filter, length, not}
use Rattle.object_ids.specs.Same.{same_id}
use Rattle.history.specs.Lists.{distinct}
use Rattle.dgc_server.specs.Numbers.{is_remembered}
use Rattle.dgc_server.specs.Entry.{object_entries, numbers_of}
use Rattle.dgc_server.proofs.marks.fresh_one_by_one.Given as goal

abbrev pub invariant-loop-i : goal.invariant-loop-i
invariant-loop-i l =
    record {
      counted : length (filter (λ o. not (is_remembered l.left (numbers_of (object_entries l.objects.entries) o))) (distinct same_id l.named))
          ≡ l.count + length (filter (λ o. not (is_remembered l.left (numbers_of (object_entries l.objects.entries) o))) (distinct same_id (drop l.i l.named)));
      within : l.count ≤ l.i;
    }
