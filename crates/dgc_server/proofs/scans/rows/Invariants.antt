use Rattle.std.proofs.Common.{◌≡◌, filter, map, take}
use Rattle.dgc_server.specs.Entry.{has_time_left, row_of}
use Rattle.dgc_server.specs.Chunks.{all_of}
use Rattle.dgc_server.proofs.scans.rows.Given as goal

abbrev pub invariant-loop-chunk : goal.invariant-loop-chunk
invariant-loop-chunk l = l.rows ≡ map row_of (filter (has_time_left l.time) (all_of (take l.chunk-index l.chunks)))
