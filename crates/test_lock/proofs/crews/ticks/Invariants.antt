use Rattle.std.specs.Prelude.{◌+◌, ◌≤◌}
use Rattle.test_lock.proofs.crews.ticks.Given as goal

abbrev pub invariant-loop-moment : goal.invariant-loop-moment
invariant-loop-moment g l = record {
  ready : g.P.Port.ready l.port;
  leads : g.P.Port.leads l.fn.port l.port;
  room : l.fn.turns ≤ (g.P.Port.shown l.port).room + l.moment;
}
