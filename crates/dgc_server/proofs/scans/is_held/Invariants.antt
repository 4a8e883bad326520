use Rattle.std.proofs.Common.{◌≡◌, drop}
use Rattle.std.specs.List.{list_any}
use Rattle.dgc_server.specs.Entry.{entry_holds}
use Rattle.dgc_server.specs.Chunks.{all_of}
use Rattle.dgc_server.proofs.scans.is_held.Given as goal

abbrev pub invariant-loop-chunk : goal.invariant-loop-chunk
invariant-loop-chunk l = list_any (entry_holds l.time l.object) (all_of (drop l.chunk-index l.chunks)) ≡ list_any (entry_holds l.time l.object) (all_of l.chunks)
