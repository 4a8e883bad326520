use Rattle.std.proofs.Common.{◌≡◌, ◌≤◌, ◌-◌, length, take, drop, true}
use Rattle.dgc_server.specs.Chunks.{all_of}
use Rattle.dgc_server.proofs.Ordered.{all_after}
use Rattle.dgc_server.proofs.Search.{all_before}
use Rattle.dgc_server.proofs.clients.chunk_of.Given as goal

abbrev pub decreases-loop-low : goal.decreases-loop-low
decreases-loop-low l = l.high - l.low

abbrev pub invariant-loop-low : goal.invariant-loop-low
invariant-loop-low l =
    record {
      forward : l.low ≤ l.high;
      within : l.high ≤ length l.chunks;
      before : all_before l.client (all_of (take (l.low - 1) l.chunks)) ≡ true;
      after : all_after l.client (all_of (drop l.high l.chunks)) ≡ true;
    }
