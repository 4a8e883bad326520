use Rattle.std.proofs.Common.{◌≡◌, ◌++◌, map, take, drop}
use Rattle.dgc_server.specs.Entry.{entry_after_lapse}
use Rattle.dgc_server.specs.HolderIndex.{tally_at}
use Rattle.dgc_server.proofs.Passing.{Passing}
use Rattle.dgc_server.proofs.lapses.pass_each.Given as goal

abbrev pub invariant-loop-entry : goal.invariant-loop-entry
invariant-loop-entry l =
    record {
      entries : l.entries ≡ map (entry_after_lapse l.to) (take l.entry-index l.initial.entries) ++ drop l.entry-index l.initial.entries;
      passing : Passing l.from l.to l.initial.entries (λ k. tally_at k l.initial.counts l.initial.so_far) (λ k. tally_at k l.counts l.so_far) l.least (drop l.entry-index l.initial.entries);
    }
