use Rattle.std.proofs.Common.{◌≡◌, ℕ, ◌-◌, length, filter, take, true}
use Rattle.std.specs.List.{list_all, AllByRecursion}
use Rattle.dgc_server.specs.Entry.{is_entry_kept}
use Rattle.dgc_server.specs.HolderIndex.{entry_names}
use Rattle.dgc_server.specs.Chunks.{all_of, ends_of, IsBounded}
use Rattle.dgc_server.proofs.Walking.{rest_of}
use Rattle.dgc_server.proofs.drops.walk.Given as goal

abbrev pub decreases-loop-i : goal.decreases-loop-i
decreases-loop-i l = length l.chunks.items - l.i

abbrev pub invariant-loop-i : goal.invariant-loop-i
invariant-loop-i l =
    record {
      same : rest_of l.object l.time (all_of l.chunks.items) ≡ rest_of l.object l.time (all_of l.initial.chunks.items);
      kept : list_all (is_entry_kept l.time) (all_of l.chunks.items) ≡ true;
      counted : l.to_go ≡ length (filter (entry_names l.object) (all_of l.chunks.items));
      bounded : (n : ℕ) → AllByRecursion (IsBounded l.time n) l.initial.chunks.items → AllByRecursion (IsBounded l.time n) l.chunks.items;
      ends : ends_of l.chunks.items ≡ ends_of l.initial.chunks.items;
      first : l.client ≡ 0 → l.first ≡ 0;
      front : l.chunk ≡ 0 → l.client ≡ 0 → length (filter (entry_names l.object) (all_of (take l.i l.chunks.items))) ≡ 0;
    }
