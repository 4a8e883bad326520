use Rattle.std.proofs.Common.{rules, ◌≡◌, ◌<◌, ap, ◌∙◌, subst}
use Rattle.history.specs.Running.{running_calls_by}
use Rattle.history.specs.Steps.{Step}
use Rattle.history.specs.Table.{places}
use Rattle.space.specs.Built.{SpaceHistory}
use Rattle.space.specs.TurnAnswers.{IsAnswerTo}
use Rattle.turn_lock.specs.declared.view.SeatState.TheVariants.{Idle}
use Rattle.turn_lock.specs.Rule.{Sat, events_answered, in_state}
use Rattle.turn_lock.proofs.Turning.{after_step, space_is, answered_rows, turned_at, may_publish, has_published, may_leave}
use Rattle.turn_lock.proofs.steps.turn.Goals as goal

pub publish_answer-requires-clause-called : goal.publish_answer-requires-clause-called
publish_answer-requires-clause-called g c =
    let x = c.enter-desk.ensures.entered in
    let opened : c.deref_mut.result.now ≡ c.enter-desk.result = search rules in
    let there = opened ∙ x.3 in
    let v = c.args.seat.now.me.0 in
    let e = c.args.event in
    let answer = c.turn-answer.result in
    let s2 : SpaceHistory = c.turn-answer.new.self in
    let part = c.requires.idle.2 in
    let step : Step v.config x.1 e answer s2.events = subst (λ (s : SpaceHistory). Step s.configuration s.events e answer s2.events) there c.turn-answer.ensures.step in
    let is = space_is s2 v.config (events_answered x.1 e answer)
    (answered_rows answer v.config x.1 c.deref_mut.result.now s2 e there c.turn-answer.ensures.config c.turn-answer.ensures.collector c.turn-answer.ensures.err)
    (c.turn-answer.ensures.config ∙ ap (λ (s : SpaceHistory). s.configuration) there) (after_step v.config x.1 s2.events e answer step) in
    may_publish c.enter-desk.new.seat.me v x.0 x.1 c.of-taken.result.value e answer s2 x.4 c.of-taken.ensures c.requires.number part is

pub leave-requires-clause-called : goal.leave-requires-clause-called
leave-requires-clause-called g c =
    let x = c.enter-desk.ensures.entered in
    let opened : c.deref_mut.result.now ≡ c.enter-desk.result = search rules in
    let there = opened ∙ x.3 in
    let v = c.args.seat.now.me.0 in
    let e = c.args.event in
    let answer = c.turn-answer.result in
    let s2 : SpaceHistory = c.turn-answer.new.self in
    let part = c.requires.idle.2 in
    let step : Step v.config x.1 e answer s2.events = subst (λ (s : SpaceHistory). Step s.configuration s.events e answer s2.events) there c.turn-answer.ensures.step in
    let is = space_is s2 v.config (events_answered x.1 e answer)
    (answered_rows answer v.config x.1 c.deref_mut.result.now s2 e there c.turn-answer.ensures.config c.turn-answer.ensures.collector c.turn-answer.ensures.err)
    (c.turn-answer.ensures.config ∙ ap (λ (s : SpaceHistory). s.configuration) there) (after_step v.config x.1 s2.events e answer step) in
    let told = has_published c.enter-desk.new.seat.me c.publish_answer.new.seat.me v x.0 x.1 c.of-taken.result.value e answer x.4 c.of-taken.ensures c.publish_answer.ensures.view in
    may_leave c.publish_answer.new.seat.me v x.0 x.1 e answer s2 told part is

pub returns-clause-turned : goal.returns-clause-turned
returns-clause-turned g c =
    let x = c.enter-desk.ensures.entered in
    let opened : c.deref_mut.result.now ≡ c.enter-desk.result = search rules in
    let there = opened ∙ x.3 in
    let v = c.args.seat.now.me.0 in
    let e = c.args.event in
    let answer = c.turn-answer.result in
    let s2 : SpaceHistory = c.turn-answer.new.self in
    let step : Step v.config x.1 e answer s2.events = subst (λ (s : SpaceHistory). Step s.configuration s.events e answer s2.events) there c.turn-answer.ensures.step in
    let told = has_published c.enter-desk.new.seat.me c.publish_answer.new.seat.me v x.0 x.1 c.of-taken.result.value e answer x.4 c.of-taken.ensures c.publish_answer.ensures.view in (
      x.1,
      turned_at v c.leave.new.seat.me.0 x.0 x.1 e answer s2.events c.requires.idle.0 x.2 step (ap (λ (m : Sat). m.0) c.leave.ensures.view ∙ ap (λ (m : Sat). in_state m.0 Idle) told),
      subst (λ (s : SpaceHistory). IsAnswerTo (λ o. 0 < running_calls_by (places s.configuration s.events) e.by o) e.ask answer) there c.turn-answer.ensures.row,
    )
