use Rattle.std.proofs.Common.{◌≡◌, ◌∙◌, ap, subst, sym, ℕ, ◌++◌, length, true≢false}
use Rattle.std.specs.Prelude.{Option, IfSome}
use Rattle.turn_lock.specs.Handles.{IsFresh, opening_of}
use Rattle.turn_lock.specs.declared.handles.Root.{Root}
use Rattle.conn_server.specs.Accepts.{links_of, reports_of, shown_all, ticks_of, with_all}
use Rattle.conn_server.specs.Made.{shown_admitted}
use Rattle.conn_server.specs.Reports.{IsLinkOf}
use Rattle.conn_server.specs.Stops.{Stopped}
use Rattle.conn_server.proofs.Closing.{all_closed, count_closed}
use Rattle.conn_server.proofs.Linking.{link_of}
use Rattle.conn_server.proofs.Taking.{first_accepting}
use Rattle.conn_server.proofs.server.serve_within.Goals as goal

pub accept_links-stop-requires-clause-accepting : goal.accept_links-stop-requires-clause-accepting
accept_links-stop-requires-clause-accepting g c κs within =
    let made = c.new-acceptor.ensures in
    let shared = c.args.shared.now in
    let read_half = g.L.In.Source.half in let write_half = g.L.Out.Sink.half in let given = g.L.Ticks.Clock.given in
    let shown = g.G.Hand.Worker.shown in
    let may = g.G.Hand.Worker.may in let moves = g.G.Hand.Worker.moves in
    let link = link_of read_half write_half given shown may moves shared.book.now shared.plan.now in
    first_accepting _ _ _ _ _ shared.lock.now shared.book.now _
    (subst (λ (r : Root). IsFresh shared.lock.now r) (sym made.root) c.requires.fresh) made.begun made.live made.all
    (rw made.taker c.requires.empty) (λ host. absurd (true≢false (sym made.keeps ∙ host)))
    (λ k admitted report for_it talked by. rw made.taker (c.requires.expects k (shown_admitted read_half write_half given admitted) report (link k admitted report for_it talked by)))
    (subst (λ (next : Option ℕ). IfSome next (λ n. n ≡ length (opening_of shared.lock.now).events)) (sym made.handed) tt)

pub returns-clause-served : goal.returns-clause-served
returns-clause-served g c =
    let a = c.accept_links-stop in
    let j = c.join_all in
    let shared = c.args.shared.now in
    let end = j.new.self in
    let is = j.ensures.accepting in
    let read_half = g.L.In.Source.half in let write_half = g.L.Out.Sink.half in let given = g.L.Ticks.Clock.given in
    let shown = g.G.Hand.Worker.shown in
    let may = g.G.Hand.Worker.may in let moves = g.G.Hand.Worker.moves in
    let told = (g.L.Listener.listening c.args.listener.now).accepted in
    let same : shown_all read_half write_half given end.all ≡ shown_all read_half write_half given a.new.acceptor.all = j.ensures.links in
    let link = link_of read_half write_half given shown may moves shared.book.now shared.plan.now in
    let IsLink = IsLinkOf read_half write_half given shown may moves shared.book.now shared.plan.now in
    let number : a.new.acceptor.begun ≡ length (reports_of end.all) = sym j.ensures.begun ∙ count_closed IsLink shared.lock.now read_half write_half given _ _ shown link _ _ shared.book.now end is j.ensures.none in
    record {
      served = shown_all read_half write_half given end.all;
      links = reports_of end.all;
      missed = a.ensures.links.0;
      joined = all_closed IsLink shared.lock.now read_half write_half given _ _ shown link _ _ shared.book.now end is j.ensures.none;
      tied = j.ensures.ticks ∙ (a.ensures.tied ∙ ap (λ l. ticks_of l) (sym same));
      given = is.given;
      told = a.ensures.links.1 ∙ ap (λ l. with_all told (links_of l ++ a.ensures.links.0)) (sym same);
      stopped = subst (λ (n : ℕ). Stopped a.result.0 shared.plan.now.count n a.ensures.links.0) number a.ensures.links.2;
      back = a.ensures.links.3;
    }
