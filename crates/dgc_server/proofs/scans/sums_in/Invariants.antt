use Rattle.std.proofs.Common.{◌≡◌, ◌+◌, ◌-◌, ◌≤◌, length, filter, take}
use Rattle.dgc_server.specs.Entry.{has_time_left}
use Rattle.dgc_server.specs.Table.{remembered_count}
use Rattle.dgc_server.specs.Chunks.{all_of}
use Rattle.dgc_server.proofs.scans.sums_in.Given as goal

abbrev pub decreases-loop-i : goal.decreases-loop-i
decreases-loop-i l = length l.board.chunks.items - l.i

abbrev pub invariant-loop-i : goal.invariant-loop-i
invariant-loop-i l =
    record {
      within : l.i ≤ length l.board.chunks.items;
      leased : l.so_far.leased + length (filter (has_time_left l.from) (all_of (take l.i l.board.chunks.items))) ≡ l.fn.sums.leased + length (filter (has_time_left l.to) (all_of (take l.i l.board.chunks.items)));
      pairs : l.so_far.pairs + remembered_count l.from (all_of (take l.i l.board.chunks.items)) ≡ l.fn.sums.pairs + remembered_count l.to (all_of (take l.i l.board.chunks.items));
    }
