use Rattle.std.proofs.Common.{◌≡◌, ◌+◌, ◌<◌, ◌∷◌, List, length, ap, subst, ◌∙◌, rules, arith, [], vec_len, length-append, take, sym}
use Rattle.std.specs.List.{AllByRecursion}
use Rattle.std.specs.Vec.Iter.{into_iter_items, into_iter_len}
use Rattle.history.specs.declared.asks.Event.{Event}
use Rattle.history.specs.declared.limits.TheConstants.{END_OF_TIME}
use Rattle.history.specs.Collector.{rows_after_each}
use Rattle.space.specs.Built.{SpaceHistory}
use Rattle.space.specs.EventLists.{CollectsEach}
use Rattle.space.proofs.CollectLaws.{front-collects, front-rows}
use Rattle.space.proofs.ListLaws.{takes-next}
use Rattle.space.proofs.turns.Space.turns.Goals as goal

pub loop-event-preserved : goal.loop-event-preserved
loop-event-preserved c =
    let h = c.loop-event.invariant in
    let first : into_iter_items c.loop-event.event-iterator ≡ c.in-Some.event ∷ into_iter_items c.next.new.self = c.in-Some.ensures.steps.0 in
    let fewer : into_iter_len c.next.new.self + 1 ≡ into_iter_len c.loop-event.event-iterator = c.in-Some.ensures.steps.1 in
    let count = ap length first in
    let P : List Event → Type 0 = λ es. AllByRecursion (λ e. e.moment < END_OF_TIME) es in
    record {
      taken = takes-next c.args.self.now.configuration c.loop-event.self.configuration c.args.self.now.events c.args.self.now.rows c.args.events.items c.loop-event.turns.items c.push_reserved.new.self.items c.in-Some.event
          (into_iter_items c.loop-event.event-iterator) (into_iter_items c.next.new.self) c.loop-event.self.events c.turn.new.self.events c.loop-event.self.rows c.turn.new.self.rows c.in-Ok.turn h.config first c.push_reserved.ensures.items h.taken c.in-Ok.ensures.step c.in-Ok.ensures.collector;
      config = c.in-Ok.ensures.config ∙ h.config;
      moments = (subst P first h.moments).1;
      left = omega (arith, h.left, fewer, count);
      room = (let capacity = c.push_reserved.ensures.capacity in let before : vec_len c.loop-event.turns ≡ length c.loop-event.turns.items = search rules in let after : vec_len c.push_reserved.new.self ≡ length c.push_reserved.new.self.items = search rules in let longer = ap length c.push_reserved.ensures.items ∙ length-append c.loop-event.turns.items (c.in-Ok.turn ∷ []) in omega (arith, h.room, fewer, capacity, before, after, longer));
    }

pub returns-clause-collector : goal.returns-clause-collector
returns-clause-collector c =
    front-collects c.args.self.now.configuration c.args.self.now.events c.args.self.now.rows c.args.events.items c.loop-event.turns.items (into_iter_items c.loop-event.event-iterator) c.loop-event.self.events c.loop-event.self.rows c.loop-event.invariant.taken

pub returns-clause-rows : goal.returns-clause-rows
returns-clause-rows c =
    front-rows c.args.self.now.configuration c.args.self.now.events c.args.self.now.rows c.args.events.items c.loop-event.turns.items (into_iter_items c.loop-event.event-iterator) c.loop-event.self.events c.loop-event.self.rows c.loop-event.invariant.taken

pub returns-in-Err-clause-collector : goal.returns-in-Err-clause-collector
returns-in-Err-clause-collector c =
    let P : SpaceHistory → Type 0 = λ s. CollectsEach c.args.self.now.configuration c.args.self.now.events c.args.self.now.rows (take (length c.loop-event.turns.items) c.args.events.items) s.events s.rows in
    subst P (sym c.in-Err.ensures.err)
    (front-collects c.args.self.now.configuration c.args.self.now.events c.args.self.now.rows c.args.events.items c.loop-event.turns.items (into_iter_items c.loop-event.event-iterator) c.loop-event.self.events c.loop-event.self.rows c.loop-event.invariant.taken)

pub returns-in-Err-clause-rows : goal.returns-in-Err-clause-rows
returns-in-Err-clause-rows c =
    let P : SpaceHistory → Type 0 = λ s. s.rows ≡ rows_after_each c.args.self.now.configuration c.args.self.now.events c.args.self.now.rows (take (length c.loop-event.turns.items) c.args.events.items) in
    subst P (sym c.in-Err.ensures.err)
    (front-rows c.args.self.now.configuration c.args.self.now.events c.args.self.now.rows c.args.events.items c.loop-event.turns.items (into_iter_items c.loop-event.event-iterator) c.loop-event.self.events c.loop-event.self.rows c.loop-event.invariant.taken)
