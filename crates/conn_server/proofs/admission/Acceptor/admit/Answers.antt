use Rattle.std.proofs.Common.{◌∙◌, ◌+◌, ◌++◌, ◌∷◌, [], ℕ, ap, sym, subst, arith}
use Rattle.wire_io.specs.Links.{accepted_as}
use Rattle.conn_server.specs.Accepts.{shown_all, links_of, ticks_of}
use Rattle.conn_server.specs.Made.{IsHandFor, shown_admitted}
use Rattle.conn_server.proofs.Listening.{links_on, ticks_on}
use Rattle.conn_server.proofs.Taking.{follows_on, follows_same, same_accepting}
use Rattle.conn_server.proofs.admission.Acceptor.admit.Goals as goal

pub returns-in_default-clause-accepting : goal.returns-in_default-clause-accepting
returns-in_default-clause-accepting g c = same_accepting _ _ _ _ _ _ _ _ _ c.reserve_link-ready.ensures.same c.requires.accepting

pub returns-in_default-clause-tied : goal.returns-in_default-clause-tied
returns-in_default-clause-tied g c =
    let same = c.reserve_link-ready.ensures.same in
    (same.ticks, ap (λ l. ticks_of (shown_all g.I.Source.half g.O.Sink.half g.T.Clock.given l)) same.all)

pub returns-in_default-clause-links : goal.returns-in_default-clause-links
returns-in_default-clause-links g c = ap (λ l. links_of (shown_all g.I.Source.half g.O.Sink.half g.T.Clock.given l)) c.reserve_link-ready.ensures.same.all

pub returns-in_default-clause-count : goal.returns-in_default-clause-count
returns-in_default-clause-count g c = c.reserve_link-ready.ensures.same.begun

pub prepare_link-requires-clause-accepting : goal.prepare_link-requires-clause-accepting
prepare_link-requires-clause-accepting g c = same_accepting _ _ _ _ _ _ _ _ _ c.reserve_link-ready.ensures.same c.requires.accepting

pub prepare_link-requires-clause-few : goal.prepare_link-requires-clause-few
prepare_link-requires-clause-few g c =
    let count = c.reserve_link-ready.ensures.same.begun in
    let few = c.requires.few in
    omega (arith, count, few)

pub prepare_link-requires-clause-room : goal.prepare_link-requires-clause-room
prepare_link-requires-clause-room g c = rw c.in-Some.is at c.reserve_link-ready.ensures.room

pub prepare_link-requires-clause-ready : goal.prepare_link-requires-clause-ready
prepare_link-requires-clause-ready g c =
    let made = c.reserve_link-ready.ensures in
    subst (λ (n : ℕ). IsHandFor g.H.Worker.shown c.args.shared.now.plan.now (n + 1) c.args.link.host c.args.link.port c.in-Some.ready) (sym made.same.begun) (rw c.in-Some.is at made.ready)

pub returns-in-Err-clause-accepting : goal.returns-in-Err-clause-accepting
returns-in-Err-clause-accepting g c = c.prepare_link.ensures.accepting

pub returns-in-Err-clause-tied : goal.returns-in-Err-clause-tied
returns-in-Err-clause-tied g c =
    let same = c.reserve_link-ready.ensures.same in
    let prepared = c.prepare_link.ensures in (
      (rw c.in-Err.is at prepared.no_tick) ∙ same.ticks,
      ap (λ l. ticks_of (shown_all g.I.Source.half g.O.Sink.half g.T.Clock.given l)) (prepared.links.all ∙ same.all),
    )

pub returns-in-Err-clause-links : goal.returns-in-Err-clause-links
returns-in-Err-clause-links g c = ap (λ l. links_of (shown_all g.I.Source.half g.O.Sink.half g.T.Clock.given l)) (c.prepare_link.ensures.links.all ∙ c.reserve_link-ready.ensures.same.all)

pub returns-in-Err-clause-count : goal.returns-in-Err-clause-count
returns-in-Err-clause-count g c = c.prepare_link.ensures.links.begun ∙ c.reserve_link-ready.ensures.same.begun

pub returns-in-Ok-clause-accepting : goal.returns-in-Ok-clause-accepting
returns-in-Ok-clause-accepting g c = c.start_link.ensures.accepting

pub returns-in-Ok-clause-tied : goal.returns-in-Ok-clause-tied
returns-in-Ok-clause-tied g c =
    let same = c.reserve_link-ready.ensures.same in
    let prepared = c.prepare_link.ensures in
    let begun = c.start_link.ensures in
    ticks_on (shown_all g.I.Source.half g.O.Sink.half g.T.Clock.given c.prepare_link.new.self.all) _ (shown_admitted g.I.Source.half g.O.Sink.half g.T.Clock.given c.in-Ok.admitted) _ _ _ begun.links
    (ap (λ l. ticks_of (shown_all g.I.Source.half g.O.Sink.half g.T.Clock.given l)) (prepared.links.all ∙ same.all))
    (begun.ticks ∙ ((rw c.in-Ok.is at prepared.ticks) ∙ ap (λ l. l ++ c.in-Ok.admitted.tick.value ∷ []) same.ticks))

pub returns-in-Ok-clause-links : goal.returns-in-Ok-clause-links
returns-in-Ok-clause-links g c =
    let same = c.reserve_link-ready.ensures.same in
    let prepared = c.prepare_link.ensures in
    links_on (shown_all g.I.Source.half g.O.Sink.half g.T.Clock.given c.prepare_link.new.self.all) _ (shown_admitted g.I.Source.half g.O.Sink.half g.T.Clock.given c.in-Ok.admitted) _ _ c.start_link.ensures.links
    (ap (λ l. links_of (shown_all g.I.Source.half g.O.Sink.half g.T.Clock.given l)) (prepared.links.all ∙ same.all))
    (ap (λ l. accepted_as g.I.Source.half g.O.Sink.half g.T.Clock.given l) (rw c.in-Ok.is at prepared.first))

pub returns-in-Ok-clause-count : goal.returns-in-Ok-clause-count
returns-in-Ok-clause-count g c = c.start_link.ensures.count ∙ ap (λ n. n + 1) (c.prepare_link.ensures.links.begun ∙ c.reserve_link-ready.ensures.same.begun)

pub returns-in_default-clause-follows : goal.returns-in_default-clause-follows
returns-in_default-clause-follows g c = follows_same _ _ _ _ c.reserve_link-ready.ensures.same

pub returns-in-Err-clause-follows : goal.returns-in-Err-clause-follows
returns-in-Err-clause-follows g c = follows_on c.args.self.now c.reserve_link-ready.new.self c.prepare_link.new.self (follows_same _ _ _ _ c.reserve_link-ready.ensures.same) c.prepare_link.ensures.follows

pub returns-in-Ok-clause-follows : goal.returns-in-Ok-clause-follows
returns-in-Ok-clause-follows g c =
    follows_on c.args.self.now c.prepare_link.new.self c.start_link.new.self (follows_on c.args.self.now c.reserve_link-ready.new.self c.prepare_link.new.self (follows_same _ _ _ _ c.reserve_link-ready.ensures.same) c.prepare_link.ensures.follows) c.start_link.ensures.follows
