use Rattle.std.proofs.Common.{◌≡◌, ◌+◌, ◌-◌, ◌≤◌, length, take, drop}
use Rattle.std.specs.List.{AllByRecursion}
use Rattle.dgc_server.specs.Table.{after_lapse}
use Rattle.dgc_server.specs.HolderIndex.{tally_at}
use Rattle.dgc_server.specs.Chunks.{all_of, ends_of, IsBounded}
use Rattle.dgc_server.proofs.Passing.{Tallying}
use Rattle.dgc_server.proofs.lapses.pass_all.Given as goal

abbrev pub decreases-loop-i : goal.decreases-loop-i
decreases-loop-i l = length l.board.chunks.items - l.i

abbrev pub invariant-loop-i : goal.invariant-loop-i
invariant-loop-i l =
    record {
      long : length l.board.chunks.items ≡ length l.initial.board.chunks.items;
      within : l.i ≤ length l.board.chunks.items;
      ends : l.board.ends.items ≡ ends_of l.board.chunks.items;
      rest : drop l.i l.board.chunks.items ≡ drop l.i l.initial.board.chunks.items;
      done : all_of (take l.i l.board.chunks.items) ≡ after_lapse l.to (all_of (take l.i l.initial.board.chunks.items));
      bounded : AllByRecursion (IsBounded l.to (l.to + 1)) (take l.i l.board.chunks.items);
      tallying : Tallying l.from l.to (all_of l.initial.board.chunks.items) (λ k. tally_at k l.initial.counts l.initial.so_far) (λ k. tally_at k l.counts l.so_far) (all_of (drop l.i l.initial.board.chunks.items));
    }
