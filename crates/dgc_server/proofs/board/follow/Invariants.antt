use Rattle.std.proofs.Common.{◌≡◌, length, take}
use Rattle.dgc_server.specs.Chunks.{ends_of}
use Rattle.dgc_server.proofs.board.follow.Given as goal

abbrev pub invariant-loop-i : goal.invariant-loop-i
invariant-loop-i l =
    record {
      long : length l.ends.items ≡ length l.chunks;
      done : take l.i l.ends.items ≡ ends_of (take l.i l.chunks);
    }
