use Rattle.std.proofs.Common.{◌≡◌, ◌∙◌, ap, subst, sym, ℕ, ◌++◌, length}
use Rattle.std.specs.Prelude.{Option, IfSome}
use Rattle.turn_lock.specs.Handles.{IsFresh, opening_of, view_of}
use Rattle.turn_lock.specs.declared.handles.Root.{Root}
use Rattle.conn_server.specs.Accepts.{links_of, reports_of, shown_all, ticks_of, with_all}
use Rattle.conn_server.specs.Made.{shown_admitted}
use Rattle.conn_server.specs.Reports.{IsLinkOf}
use Rattle.conn_server.specs.Stops.{HostStopped}
use Rattle.conn_server.proofs.Closing.{all_closed, count_closed}
use Rattle.conn_server.proofs.Linking.{link_of}
use Rattle.conn_server.proofs.Quiet.{quiet_later, quiet_same}
use Rattle.conn_server.proofs.Taking.{first_accepting}
use Rattle.conn_server.proofs.server.host_within.Goals as goal

pub run-stop-requires-clause-accepting : goal.run-stop-requires-clause-accepting
run-stop-requires-clause-accepting g c κs within =
    let made = c.new-host.ensures in
    let shared = c.args.shared.now in
    let read_half = g.L.In.Source.half in let write_half = g.L.Out.Sink.half in let given = g.L.Ticks.Clock.given in
    let shown = g.G.Hand.Worker.shown in
    let may = g.G.Hand.Worker.may in let moves = g.G.Hand.Worker.moves in
    let link = link_of read_half write_half given shown may moves shared.book.now shared.plan.now in
    first_accepting _ _ _ _ _ shared.lock.now shared.book.now _
    (subst (λ (r : Root). IsFresh shared.lock.now r) (sym made.root) c.requires.fresh) made.begun made.live made.all
    (rw made.taker c.requires.empty) (λ host. rw made.taker c.requires.no_event)
    (λ k admitted report for_it talked by. rw made.taker (c.requires.expects k (shown_admitted read_half write_half given admitted) report (link k admitted report for_it talked by)))
    (subst (λ (next : Option ℕ). IfSome next (λ n. n ≡ length (opening_of shared.lock.now).events)) (sym made.handed) c.requires.handed)

pub returns-clause-hosted : goal.returns-clause-hosted
returns-clause-hosted g c =
    let a = c.run-stop in
    let e = a.ensures.halted in
    let j = c.end_all in
    let shared = c.args.shared.now in
    let end = j.new.self in
    let is = j.ensures.accepting in
    let read_half = g.L.In.Source.half in let write_half = g.L.Out.Sink.half in let given = g.L.Ticks.Clock.given in
    let shown = g.G.Hand.Worker.shown in
    let may = g.G.Hand.Worker.may in let moves = g.G.Hand.Worker.moves in
    let told = (g.L.Listener.listening c.args.listener.now).accepted in
    let same : shown_all read_half write_half given end.all ≡ shown_all read_half write_half given a.new.self.acceptor.all = j.ensures.links in
    let link = link_of read_half write_half given shown may moves shared.book.now shared.plan.now in
    let opening = opening_of shared.lock.now in
    let seen = (view_of a.new.self.acceptor.root.pass).seen in
    let seen_after = (view_of end.root.pass).seen in
    let missed = a.new.self.own.missed in
    let IsLink = IsLinkOf read_half write_half given shown may moves shared.book.now shared.plan.now in
    let number : a.new.self.acceptor.begun ≡ length (reports_of end.all) = sym j.ensures.begun ∙ count_closed IsLink shared.lock.now read_half write_half given _ _ shown link _ _ shared.book.now end is j.ensures.none in
    record {
      served = shown_all read_half write_half given end.all;
      links = reports_of end.all;
      missed = e.missed;
      joined = all_closed IsLink shared.lock.now read_half write_half given _ _ shown link _ _ shared.book.now end is j.ensures.none;
      handed_on = is.handed_on (j.ensures.follows.1 ∙ e.hosts);
      quiet = quiet_later shown moves opening seen seen_after missed _ _ _ _ _ _ a.new.self.own.hand j.ensures.follows.0
          (quiet_same shown moves opening seen missed _ _ _ _ _ _ _ _ a.new.self.own.hand e.quiet j.ensures.ticks (ap (λ l. ticks_of l) same));
      reports = is.given;
      told_links = e.links ∙ ap (λ l. with_all told (links_of l ++ e.missed)) (sym same);
      stopped = subst (λ (n : ℕ). HostStopped a.result.stop (g.L.Listener.listening a.new.listener).told shared.plan.now.count n e.missed) number e.stopped;
      back = e.back;
      untold = e.untold;
      closed = a.ensures.closed;
      waited = e.waited;
    }

pub returns-clause-fault : goal.returns-clause-fault
returns-clause-fault g c = c.run-stop.ensures.fault

pub returns-clause-faults : goal.returns-clause-faults
returns-clause-faults g c = c.run-stop.ensures.halted.faults

pub returns-clause-ports : goal.returns-clause-ports
returns-clause-ports g c = c.run-stop.ensures.halted.same_ports

pub returns-clause-keeps : goal.returns-clause-keeps
returns-clause-keeps g c =
    let made = c.new-host.ensures in
    let first = rw made.taker at c.run-stop.ensures.keeps in
    let then = c.end_all.ensures.keeps in
    (λ held. then.0 (first.0 held), then.1 ∙ first.1)
