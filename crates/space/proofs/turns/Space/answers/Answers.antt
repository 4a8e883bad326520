use Rattle.std.proofs.Common.{◌≡◌, ◌+◌, ◌<◌, ◌∷◌, [], List, length, ap, subst, ◌∙◌, rules, arith, vec_len, length-append}
use Rattle.std.specs.List.{AllByRecursion}
use Rattle.std.specs.Vec.Iter.{into_iter_items, into_iter_len}
use Rattle.history.specs.declared.asks.Event.{Event}
use Rattle.history.specs.declared.limits.TheConstants.{END_OF_TIME}
use Rattle.space.proofs.StepsLaws.{none-left, answered-next, answered-all, answered-exact}
use Rattle.space.proofs.turns.Space.answers.Goals as goal

pub loop-event-preserved : goal.loop-event-preserved
loop-event-preserved c =
    let h = c.loop-event.invariant in
    let first : into_iter_items c.loop-event.event-iterator ≡ c.in-Some.event ∷ into_iter_items c.next.new.self = c.in-Some.ensures.steps.0 in
    let fewer : into_iter_len c.next.new.self + 1 ≡ into_iter_len c.loop-event.event-iterator = c.in-Some.ensures.steps.1 in
    let count = ap length first in
    let before : vec_len c.loop-event.answers ≡ length c.loop-event.answers.items = search rules in
    let after : vec_len c.push_reserved.new.self ≡ length c.push_reserved.new.self.items = search rules in
    let longer = ap length c.push_reserved.ensures.items ∙ length-append c.loop-event.answers.items (c.turn.result ∷ []) in
    let capacity = c.push_reserved.ensures.capacity in
    let P : List Event → Type 0 = λ es. AllByRecursion (λ e. e.moment < END_OF_TIME) es in
    record {
      answered = answered-next c.args.self.now.configuration c.loop-event.self.configuration c.args.self.now.events c.args.events.items c.loop-event.answers.items c.push_reserved.new.self.items c.in-Some.event
          (into_iter_items c.loop-event.event-iterator) (into_iter_items c.next.new.self) c.loop-event.self.events c.turn.new.self.events c.turn.result h.config first c.push_reserved.ensures.items h.answered c.turn.ensures.step;
      config = c.turn.ensures.config ∙ h.config;
      moments = (subst P first h.moments).1;
      left = omega (arith, h.left, fewer, count);
      room = omega (arith, h.room, fewer, before, after, longer, capacity);
    }

pub returns-clause-exact : goal.returns-clause-exact
returns-clause-exact c =
    let none : into_iter_items c.loop-event.event-iterator ≡ [] = none-left (into_iter_items c.loop-event.event-iterator) (into_iter_len c.loop-event.event-iterator) c.in-None.ensures.steps.0 c.loop-event.invariant.left in
    answered-exact c.args.self.now.configuration c.args.self.now.events c.args.events.items c.loop-event.answers.items c.loop-event.self.events
    (answered-all c.args.self.now.configuration c.args.self.now.events c.args.events.items (into_iter_items c.loop-event.event-iterator) c.loop-event.answers.items c.loop-event.self.events none c.loop-event.invariant.answered)
