use Rattle.std.proofs.Common.{◌≡◌, ◌++◌, length}
use Rattle.ser_write.specs.Canonical.{Begins, blocks}
use Rattle.ser_write.proofs.pieces.put_blocks.Given as goal

abbrev pub invariant-loop-rest : goal.invariant-loop-rest
invariant-loop-rest l =
    record {
      written : l.out ++ blocks l.rest ≡ l.fn.out ++ blocks l.bytes;
      kept : Begins l.fn.out l.out;
    }

abbrev pub decreases-loop-rest : goal.decreases-loop-rest
decreases-loop-rest l = length l.rest
