use Rattle.std.proofs.Common.{◌≡◌, ℕ, ◌+◌, ◌-◌, ◌≤◌, ◌++◌, length, map, take, drop}
use Rattle.std.specs.List.{AllByRecursion}
use Rattle.dgc_server.specs.HolderIndex.{is_named, with_only, objects_in, IsCalm}
use Rattle.dgc_server.proofs.table.keep_named.Given as goal

abbrev pub decreases-loop-i : goal.decreases-loop-i
decreases-loop-i l = length l.entries.items - l.i

abbrev pub invariant-loop-i : goal.invariant-loop-i
invariant-loop-i l =
    record {
      same : map (with_only (is_named l.counts)) l.entries.items ≡ map (with_only (is_named l.counts)) l.initial.entries.items;
      to_go : l.to_go + objects_in l.initial.entries.items ≡ l.pairs + objects_in l.entries.items;
      enough : objects_in l.entries.items ≤ l.to_go + objects_in (map (with_only (is_named l.counts)) l.entries.items);
      front : l.first ≡ 0 → l.entries.items ≡ map (with_only (is_named l.counts)) (take l.i l.initial.entries.items) ++ drop l.i l.initial.entries.items;
      calm : (m n : ℕ) → AllByRecursion (IsCalm m n) l.initial.entries.items → AllByRecursion (IsCalm m n) l.entries.items;
      long : length l.entries.items ≡ length l.initial.entries.items;
    }
