use Rattle.std.proofs.Common.{◌≡◌, ◌++◌, ◌-◌, ◌≤◌, length, flat_map, drop}
use Rattle.dgc_server.specs.HolderIndex.{freed_of}
use Rattle.dgc_server.specs.Chunks.{all_of}
use Rattle.dgc_server.proofs.lease_ends.freed_in.Given as goal

abbrev pub decreases-loop-i : goal.decreases-loop-i
decreases-loop-i l = length l.board.chunks.items - l.i

abbrev pub invariant-loop-i : goal.invariant-loop-i
invariant-loop-i l =
    record {
      within : l.i ≤ length l.board.chunks.items;
      rest : l.freed.items ++ flat_map (freed_of l.from l.to) (all_of (drop l.i l.board.chunks.items)) ≡ flat_map (freed_of l.from l.to) (all_of l.board.chunks.items);
    }
