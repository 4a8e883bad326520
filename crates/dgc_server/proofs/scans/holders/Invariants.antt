use Rattle.std.proofs.Common.{◌≡◌, ◌≤◌, ◌*◌, ◌^◌, length, filter, take}
use Rattle.dgc_server.specs.Entry.{entry_holds}
use Rattle.dgc_server.specs.Chunks.{all_of}
use Rattle.dgc_server.proofs.scans.holders.Given as goal

abbrev pub invariant-loop-chunk : goal.invariant-loop-chunk
invariant-loop-chunk l =
    record {
      counted : l.sum ≡ length (filter (entry_holds l.time l.object) (all_of (take l.chunk-index l.chunks)));
      within : l.sum ≤ l.chunk-index * 2 ^ 64;
    }
