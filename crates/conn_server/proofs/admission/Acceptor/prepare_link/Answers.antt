use Rattle.std.proofs.Common.{ℕ, ◌∙◌, ◌+◌, ◌∷◌, [], ap, subst, sym, refl, arith, length, rules}
use Rattle.std.specs.Prelude.{FitsSigned, vec_len, vec_capacity}
use Rattle.std.specs.Int.{w32}
use Rattle.std.proofs.lemmas.Int.{to_z-of_z}
use Rattle.wire_io.specs.Wire.{Gave}
use Rattle.conn_server.proofs.Losing.{lost_link}
use Rattle.conn_server.proofs.Making.{made_for}
use Rattle.conn_server.proofs.admission.Acceptor.prepare_link.Goals as goal

pub returns-clause-next : goal.returns-clause-next
returns-clause-next g c =
    let t = c.with_tick-entry.ensures in
    let ready = c.requires.ready in
    let hand = c.args.ready.hand in
    let count = t.links.begun in
    let long = ap vec_len t.links.live_are in
    let held = ap vec_capacity t.links.live_are in
    let reports = ap length t.links.reports in
    let kept = t.links.room in
    let few = c.requires.few in
    let room = c.requires.room.live_room in
    let room2 = c.requires.room.reports in
    let fits : FitsSigned w32 c.args.link.port = search rules in
    record {
      accepting = t.accepting;
      few = omega (arith, count, few);
      can = record { told = t.calls ∙ ready.told; peer_host = ready.peer_host; host = ready.host; time = ready.time; drawn = ready.drawn };
      made = made_for g.I.Source.half g.O.Sink.half g.T.Clock.given g.H.Worker.shown g.H.Worker.moves c.args.shared.now.plan.now _ _ c.args.link _ c.of-first.ensures
          (ap (λ n. n + 1) (sym count)) refl refl c.requires.halves refl (to_z-of_z w32 c.args.link.port fits) ready.terms
          (rw c.in-Some.is at t.is_tick).0 (rw c.in-Some.is at t.is_tick).1
          (subst (λ (m : ℕ). Gave (g.T.Clock.given c.args.link.clock) (g.T.Clock.given c.now-moment.new.self) (m ∷ [])) (sym (rw c.in-Some.is at t.at_moment)) c.now-moment.ensures.given)
          (t.number ∙ ready.hand)
          ((g.H.Worker.shown hand).seen, (g.H.Worker.shown hand).state, ready.untold, ready.uncounted, rw c.in-Some.is at t.seen, rw c.in-Some.is at t.state);
      after_tick = rw c.in-Some.is at t.place;
      live_room = omega (arith, long, held, room);
      reports = omega (arith, long, reports, kept, room2);
    }

pub returns-in_default-clause-lost : goal.returns-in_default-clause-lost
returns-in_default-clause-lost g c =
    let given = g.T.Clock.given in
    let s = c.shut_link.ensures in
    let moment = c.now-moment.result in
    lost_link g.I.Source.half g.O.Sink.half given c.args.link c.shut_link.result (moment ∷ []) c.requires.halves s.source s.sink (omega arith)
    (subst (λ t. Gave (given c.args.link.clock) (given t) (moment ∷ [])) (sym s.clock) c.now-moment.ensures.given)
