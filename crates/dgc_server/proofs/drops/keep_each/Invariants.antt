use Rattle.std.proofs.Common.{◌≡◌, ℕ, ◌-◌, length, take, drop, filter}
use Rattle.std.specs.List.{AllByRecursion}
use Rattle.dgc_server.specs.Entry.{is_entry_kept}
use Rattle.dgc_server.specs.Chunks.{all_of, ends_of, IsBounded, IsCalmChunk}
use Rattle.dgc_server.proofs.drops.keep_each.Given as goal

abbrev pub decreases-loop-i : goal.decreases-loop-i
decreases-loop-i l = length l.chunks.items - l.i

abbrev pub invariant-loop-i : goal.invariant-loop-i
invariant-loop-i l =
    record {
      long : length l.chunks.items ≡ length l.initial.chunks.items;
      rest : drop l.i l.chunks.items ≡ drop l.i l.initial.chunks.items;
      ends : ends_of l.chunks.items ≡ ends_of l.initial.chunks.items;
      bounded : (n : ℕ) → AllByRecursion (IsCalmChunk l.now n) l.initial.chunks.items → AllByRecursion (IsBounded l.now n) (take l.i l.chunks.items);
      done : all_of (take l.i l.chunks.items) ≡ filter (is_entry_kept l.now) (all_of (take l.i l.initial.chunks.items));
    }
