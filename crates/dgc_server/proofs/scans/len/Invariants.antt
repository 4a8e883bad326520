use Rattle.std.proofs.Common.{◌≡◌, ◌≤◌, ◌*◌, ◌^◌, length, take}
use Rattle.dgc_server.specs.Chunks.{all_of}
use Rattle.dgc_server.proofs.scans.len.Given as goal

abbrev pub invariant-loop-chunk : goal.invariant-loop-chunk
invariant-loop-chunk l =
    record {
      counted : l.sum ≡ length (all_of (take l.chunk-index l.chunks));
      within : l.sum ≤ l.chunk-index * 2 ^ 64;
    }
