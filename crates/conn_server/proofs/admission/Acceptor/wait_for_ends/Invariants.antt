use Rattle.std.specs.Prelude.{◌≡◌}
use Rattle.conn_server.specs.Accepts.{Follows, IsAccepting, shown_all}
use Rattle.conn_server.specs.Taken.{Keeps}
use Rattle.conn_server.specs.Made.{IsMadeFor}
use Rattle.conn_server.specs.Talks.{TalksOver}
use Rattle.conn_server.proofs.admission.Acceptor.wait_for_ends.Given as goal

abbrev pub invariant-loop : goal.invariant-loop
invariant-loop g l = record {
  is : IsAccepting
      (TalksOver g.I.Source.half g.O.Sink.half g.T.Clock.given g.H.Worker.shown g.H.Worker.may g.H.Worker.moves l.shared.book.now)
      (IsMadeFor g.I.Source.half g.O.Sink.half g.T.Clock.given g.H.Worker.shown g.H.Worker.moves l.shared.plan.now)
      g.H.Worker.shown g.C.ReportTaker.taken g.C.ReportTaker.expects l.shared.lock.now l.shared.book.now l.self;
  ticks : (g.C.ReportTaker.taken l.self.taker).ticks ≡ (g.C.ReportTaker.taken l.fn.self.taker).ticks;
  links : shown_all g.I.Source.half g.O.Sink.half g.T.Clock.given l.self.all ≡ shown_all g.I.Source.half g.O.Sink.half g.T.Clock.given l.fn.self.all;
  begun : l.self.begun ≡ l.fn.self.begun;
  follows : Follows l.fn.self l.self;
  keeps : Keeps g.C.ReportTaker.holds g.C.ReportTaker.stays l.fn.self.taker l.self.taker;
}
