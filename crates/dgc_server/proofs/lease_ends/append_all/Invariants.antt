use Rattle.std.proofs.Common.{◌≡◌, ◌++◌, drop, flat_map}
use Rattle.dgc_server.specs.HolderIndex.{freed_of}
use Rattle.dgc_server.proofs.lease_ends.append_all.Given as goal

abbrev pub invariant-loop-entry : goal.invariant-loop-entry
invariant-loop-entry l =
    l.freed.items ++ flat_map (freed_of l.from l.to) (drop l.entry-index l.entries) ≡ l.initial.freed.items ++ flat_map (freed_of l.from l.to) l.entries
