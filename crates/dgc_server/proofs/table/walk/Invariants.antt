use Rattle.std.proofs.Common.{◌≡◌, ℕ, ◌+◌, ◌-◌, ◌≤◌, length, filter, take, true}
use Rattle.std.specs.List.{list_all, AllByRecursion}
use Rattle.dgc_server.specs.Entry.{is_entry_kept}
use Rattle.dgc_server.specs.HolderIndex.{entry_names, IsSettled}
use Rattle.dgc_server.proofs.Walking.{rest_of}
use Rattle.dgc_server.proofs.table.walk.Given as goal

abbrev pub decreases-loop-i : goal.decreases-loop-i
decreases-loop-i l = (length l.entries.items - l.i) + l.to_go

abbrev pub invariant-loop-i : goal.invariant-loop-i
invariant-loop-i l =
    record {
      same : rest_of l.object l.time l.entries.items ≡ rest_of l.object l.time l.initial.entries.items;
      kept : list_all (is_entry_kept l.time) l.entries.items ≡ true;
      counted : l.to_go + length (filter (entry_names l.object) l.initial.entries.items) ≡ l.clients + length (filter (entry_names l.object) l.entries.items);
      enough : length (filter (entry_names l.object) l.entries.items) ≤ l.to_go;
      settled : (n : ℕ) → AllByRecursion (IsSettled l.time n) l.initial.entries.items → AllByRecursion (IsSettled l.time n) l.entries.items;
      front : l.first ≡ 0 → length (filter (entry_names l.object) (take l.i l.entries.items)) ≡ 0;
    }
