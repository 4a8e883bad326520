use Rattle.std.proofs.Common.{◌≡◌, ℕ, ◌+◌, ◌-◌, length, map, take}
use Rattle.std.specs.List.{AllByRecursion}
use Rattle.dgc_server.specs.HolderIndex.{is_named, with_only, objects_in}
use Rattle.dgc_server.specs.Chunks.{all_of, ends_of, IsCalmChunk}
use Rattle.dgc_server.proofs.drops.keep_named.Given as goal

abbrev pub decreases-loop-i : goal.decreases-loop-i
decreases-loop-i l = length l.chunks.items - l.i

abbrev pub invariant-loop-i : goal.invariant-loop-i
invariant-loop-i l =
    record {
      same : map (with_only (is_named l.counts)) (all_of l.chunks.items) ≡ map (with_only (is_named l.counts)) (all_of l.initial.chunks.items);
      to_go : l.to_go + objects_in (map (with_only (is_named l.counts)) (all_of l.chunks.items)) ≡ objects_in (all_of l.chunks.items);
      calm : (m n : ℕ) → AllByRecursion (IsCalmChunk m n) l.initial.chunks.items → AllByRecursion (IsCalmChunk m n) l.chunks.items;
      ends : ends_of l.chunks.items ≡ ends_of l.initial.chunks.items;
      first : l.client ≡ 0 → l.first ≡ 0;
      front : l.chunk ≡ 0 → l.client ≡ 0 → map (with_only (is_named l.counts)) (all_of (take l.i l.chunks.items)) ≡ all_of (take l.i l.chunks.items);
    }
