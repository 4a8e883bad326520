use Rattle.std.proofs.Common.{◌≤◌, length, map, take}
use Rattle.dgc_server.specs.Counts.{without_all}
use Rattle.dgc_server.specs.StandsForCalls.{StandsFor, ForEachLog}
use Rattle.dgc_server.proofs.leases.Leases.drop_each.Given as goal

abbrev pub invariant-loop-object : goal.invariant-loop-object
invariant-loop-object l =
    record {
      fewer : length l.self.entries ≤ length l.initial.self.entries;
      stands : ForEachLog l.initial.self (λ lease moment calls. StandsFor lease l.self moment (map (without_all (take l.object-index l.objects)) calls));
    }
