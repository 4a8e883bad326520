use Rattle.std.specs.Prelude.{◌≡◌, ◌≤◌}
use Rattle.conn_server.specs.Accepts.{IsAccepting, shown_all}
use Rattle.conn_server.specs.Made.{IsMadeFor}
use Rattle.conn_server.specs.Talks.{TalksOver}
use Rattle.conn_server.proofs.accept_loop.next_link.Given as goal

abbrev pub invariant-loop : goal.invariant-loop
invariant-loop g l = record {
  is : IsAccepting
      (TalksOver g.L.In.Source.half g.L.Out.Sink.half g.L.Ticks.Clock.given g.H.Worker.shown g.H.Worker.may g.H.Worker.moves l.shared.book.now)
      (IsMadeFor g.L.In.Source.half g.L.Out.Sink.half g.L.Ticks.Clock.given g.H.Worker.shown g.H.Worker.moves l.shared.plan.now)
      g.H.Worker.shown g.C.ReportTaker.taken g.C.ReportTaker.expects l.shared.lock.now l.shared.book.now l.acceptor;
  ticks : (g.C.ReportTaker.taken l.acceptor.taker).ticks ≡ (g.C.ReportTaker.taken l.fn.acceptor.taker).ticks;
  links : shown_all g.L.In.Source.half g.L.Out.Sink.half g.L.Ticks.Clock.given l.acceptor.all ≡ shown_all g.L.In.Source.half g.L.Out.Sink.half g.L.Ticks.Clock.given l.fn.acceptor.all;
  begun : l.acceptor.begun ≡ l.fn.acceptor.begun;
  told : (g.L.Listener.listening l.listener).accepted ≡ (g.L.Listener.listening l.fn.listener).accepted;
  faults : (g.L.Listener.listening l.fn.listener).faults ≤ (g.L.Listener.listening l.listener).faults;
  ports : (g.L.Listener.listening l.listener).ports ≡ (g.L.Listener.listening l.fn.listener).ports;
}
