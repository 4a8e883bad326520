use Rattle.std.proofs.Common.{◌≡◌, ◌∷◌, ◌++◌, [], List, subst}
use Rattle.std.specs.Prelude.{MatchOption}
use Rattle.space.specs.declared.asked.Asked.{Asked}
use Rattle.conn_server.proofs.Quiet.{makes_tick}
use Rattle.conn_server.proofs.Taking.{same_accepting}
use Rattle.conn_server.proofs.admission.Acceptor.make_tick.Goals as goal

pub returns-then-not-with_tick_room-clause-accepting : goal.returns-then-not-with_tick_room-clause-accepting
returns-then-not-with_tick_room-clause-accepting g c = same_accepting _ _ _ _ _ _ _ _ _ c.with_tick_room.ensures.same c.requires.accepting

pub returns-in_default-clause-accepting : goal.returns-in_default-clause-accepting
returns-in_default-clause-accepting g c = same_accepting _ _ _ _ _ _ _ _ _ c.with_tick_room.ensures.same c.requires.accepting

pub with_tick-entry-requires-clause-accepting : goal.with_tick-entry-requires-clause-accepting
with_tick-entry-requires-clause-accepting g c = same_accepting _ _ _ _ _ _ _ _ _ c.with_tick_room.ensures.same c.requires.accepting

pub returns-clause-made : goal.returns-clause-made
returns-clause-made g c =
    let t = c.with_tick-entry.ensures in
    let entry = c.with_tick-entry.result in
    let ticks_after = (g.C.ReportTaker.taken c.with_tick-entry.new.self.taker).ticks in
    let items = subst (λ (l : List Asked). MatchOption entry (ticks_after ≡ l) (λ k. ticks_after ≡ l ++ k.value ∷ [])) c.with_tick_room.ensures.same.ticks t.ticks in
    makes_tick g.H.Worker.shown g.H.Worker.moves (λ k. k.value) c.args.moment entry (g.C.ReportTaker.taken c.args.self.now.taker).ticks ticks_after c.args.own.now c.in-Some.hand c.with_tick-entry.new.hand
    c.in-Some.ensures.has items t.is_tick t.at_moment t.seen t.state t.calls t.number c.is_some.result c.is_some.ensures
