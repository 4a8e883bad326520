use Rattle.std.specs.Prelude.{◌≡◌, ◌≤◌}
use Rattle.conn_server.specs.Accepts.{IsAccepting, shown_all, links_of, ticks_of, with_all}
use Rattle.conn_server.specs.Made.{IsMadeFor}
use Rattle.conn_server.specs.Talks.{TalksOver}
use Rattle.conn_server.proofs.accept_loop.accept_links.Given as goal

abbrev pub invariant-loop : goal.invariant-loop
invariant-loop g l = record {
  is : IsAccepting
      (TalksOver g.L.In.Source.half g.L.Out.Sink.half g.L.Ticks.Clock.given g.G.Hand.Worker.shown g.G.Hand.Worker.may g.G.Hand.Worker.moves l.shared.book.now)
      (IsMadeFor g.L.In.Source.half g.L.Out.Sink.half g.L.Ticks.Clock.given g.G.Hand.Worker.shown g.G.Hand.Worker.moves l.shared.plan.now)
      g.G.Hand.Worker.shown g.C.ReportTaker.taken g.C.ReportTaker.expects l.shared.lock.now l.shared.book.now l.acceptor;
  count : l.acceptor.begun ≡ l.counter;
  tied : (g.C.ReportTaker.taken l.acceptor.taker).ticks ≡ ticks_of (shown_all g.L.In.Source.half g.L.Out.Sink.half g.L.Ticks.Clock.given l.acceptor.all);
  links : (g.L.Listener.listening l.listener).accepted ≡ with_all (g.L.Listener.listening l.fn.listener).accepted (links_of (shown_all g.L.In.Source.half g.L.Out.Sink.half g.L.Ticks.Clock.given l.acceptor.all));
  faults : (g.L.Listener.listening l.fn.listener).faults ≤ (g.L.Listener.listening l.listener).faults;
  ports : (g.L.Listener.listening l.listener).ports ≡ (g.L.Listener.listening l.fn.listener).ports;
}
