use Rattle.std.proofs.Common.{◌≡◌, ◌-◌, ◌≤◌, length, drop}
use Rattle.std.specs.List.{list_any}
use Rattle.dgc_server.specs.HolderIndex.{ends_between}
use Rattle.dgc_server.specs.Chunks.{all_of}
use Rattle.dgc_server.proofs.lease_ends.has_ended_in.Given as goal

abbrev pub decreases-loop-i : goal.decreases-loop-i
decreases-loop-i l = length l.board.chunks.items - l.i

abbrev pub invariant-loop-i : goal.invariant-loop-i
invariant-loop-i l =
    record {
      within : l.i ≤ length l.board.chunks.items;
      rest : list_any (ends_between l.from l.to) (all_of (drop l.i l.board.chunks.items)) ≡ list_any (ends_between l.from l.to) (all_of l.board.chunks.items);
    }
