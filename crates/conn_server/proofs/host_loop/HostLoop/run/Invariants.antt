use Rattle.std.specs.Prelude.{◌≡◌}
use Rattle.conn_server.specs.Taken.{Keeps}
use Rattle.conn_server.specs.Hosts.{FailedSince, IsHosting}
use Rattle.conn_server.proofs.host_loop.HostLoop.run.Given as goal

abbrev pub invariant-loop : goal.invariant-loop
invariant-loop g l = record {
  is : IsHosting g.I.Source.half g.O.Sink.half g.T.Clock.given g.H.Worker.shown g.H.Worker.may g.H.Worker.moves g.C.ReportTaker.taken g.C.ReportTaker.expects
      l.shared.lock.now l.shared.book.now l.shared.plan.now
      (g.L.Listener.listening l.fn.listener) (g.L.Listener.listening l.listener) (g.Q.Clock.given l.fn.ticks) (g.Q.Clock.given l.ticks) l.self.acceptor l.self.own;
  since : FailedSince g.L.Listener.listening l.self.idle_tries (g.L.Listener.listening l.fn.listener) (g.L.Listener.listening l.listener);
  still_open : (g.L.Listener.listening l.listener).closed ≡ (g.L.Listener.listening l.fn.listener).closed;
  keeps : Keeps g.C.ReportTaker.holds g.C.ReportTaker.stays l.fn.self.acceptor.taker l.self.acceptor.taker;
}
