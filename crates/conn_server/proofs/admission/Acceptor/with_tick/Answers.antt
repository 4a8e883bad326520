use Rattle.std.proofs.Common.{◌≡◌, refl, length, []}
use Rattle.std.specs.Prelude.{option_to_list}
use Rattle.turn_lock.specs.Handles.{view_of}
use Rattle.call_dispatch.specs.Acts.{TellsMore, LeadsStates}
use Rattle.conn_server.specs.Made.{IsTakenBelow, told_of}
use Rattle.conn_server.specs.Quiet.{IsTick}
use Rattle.conn_server.proofs.Ending.{begins_gained}
use Rattle.conn_server.proofs.Taking.{handed_at_turn, tick_accepting}
use Rattle.conn_server.proofs.Ticks.{known_as, known_there, kept_there}
use Rattle.conn_server.proofs.admission.Acceptor.with_tick.Goals as goal

pub returns-clause-accepting : goal.returns-clause-accepting
returns-clause-accepting g c =
    let t = c.tick_at-entry.ensures in
    let shared = c.args.shared.now in
    let entries = option_to_list c.tick_at-entry.result in
    tick_accepting _ _ _ _ _ shared.lock.now shared.book.now c.args.self.now _ entries c.requires.accepting t.root t.counts.0 t.counts.1 t.went.views c.hand_entry.ensures.items c.hand_entry.ensures.reports refl refl refl
    (handed_at_turn _ _ _ _ _ shared.lock.now shared.book.now c.args.self.now _ entries _ _ c.requires.accepting t.went.views c.hand_entry.ensures.events refl)

pub returns-clause-ticks : goal.returns-clause-ticks
returns-clause-ticks g c = kept_there (λ k. k.value) (g.C.ReportTaker.taken c.args.self.now.taker).ticks _ c.tick_at-entry.result c.hand_entry.result c.hand_entry.ensures.known c.hand_entry.ensures.items

pub returns-clause-is_tick : goal.returns-clause-is_tick
returns-clause-is_tick g c = known_there (λ k. k.value) IsTick c.tick_at-entry.result c.hand_entry.result c.hand_entry.ensures.known c.tick_at-entry.ensures.is_tick

pub returns-clause-place : goal.returns-clause-place
returns-clause-place g c =
    known_there (λ k. k.value) (λ entry. IsTakenBelow (length (view_of c.tick_at-entry.new.root.pass).seen) entry.end) c.tick_at-entry.result c.hand_entry.result c.hand_entry.ensures.known c.tick_at-entry.ensures.place

pub returns-clause-at_moment : goal.returns-clause-at_moment
returns-clause-at_moment g c = known_there (λ k. k.value) (λ entry. entry.moment ≡ c.args.moment) c.tick_at-entry.result c.hand_entry.result c.hand_entry.ensures.known c.tick_at-entry.ensures.at_moment

pub returns-clause-seen : goal.returns-clause-seen
returns-clause-seen g c =
    let before = (g.H.Worker.shown c.args.hand.now).seen in
    let after = (g.H.Worker.shown c.tick_at-entry.new.hand).seen in
    known_as (λ k. k.value) (TellsMore before [] after) (λ entry. TellsMore before (told_of entry) after) c.tick_at-entry.result c.hand_entry.result c.hand_entry.ensures.known c.tick_at-entry.ensures.seen

pub returns-clause-state : goal.returns-clause-state
returns-clause-state g c =
    let before = (g.H.Worker.shown c.args.hand.now).state in
    let after = (g.H.Worker.shown c.tick_at-entry.new.hand).state in
    let moves = g.H.Worker.moves in
    known_as (λ k. k.value) (LeadsStates moves before [] after) (λ entry. LeadsStates moves before (told_of entry) after) c.tick_at-entry.result c.hand_entry.result c.hand_entry.ensures.known c.tick_at-entry.ensures.state

pub returns-clause-follows : goal.returns-clause-follows
returns-clause-follows g c = (begins_gained (view_of c.args.self.now.root.pass) (view_of c.tick_at-entry.new.root.pass) _ c.tick_at-entry.ensures.went.views, refl)
