use Rattle.std.specs.Prelude.{◌+◌, ◌*◌, ◌≤◌}
use Rattle.test_lock.specs.Started.{AllEnded}
use Rattle.test_lock.proofs.crews.calls.Given as goal

abbrev pub invariant-loop-k : goal.invariant-loop-k
invariant-loop-k g l = record {
  ready : g.P.Port.ready l.port;
  leads : g.P.Port.leads l.fn.port l.port;
  room : 2 * l.fn.count ≤ (g.P.Port.shown l.port).room + 2 * l.k;
  ended : AllEnded (g.P.Port.shown l.port).asked l.object;
}
