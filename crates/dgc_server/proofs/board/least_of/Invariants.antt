use Rattle.std.proofs.Common.{◌≡◌, ◌≤◌, drop}
use Rattle.std.specs.Prelude.{min}
use Rattle.dgc_server.specs.Chunks.{least_end}
use Rattle.dgc_server.proofs.board.least_of.Given as goal

abbrev pub invariant-loop-end : goal.invariant-loop-end
invariant-loop-end l =
    record {
      most : l.least ≤ 0xFFFFFFFFFFFFFFFF;
      rest : min l.least (least_end (drop l.end-index l.ends)) ≡ least_end l.ends;
    }
