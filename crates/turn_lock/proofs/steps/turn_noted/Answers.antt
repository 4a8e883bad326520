use Rattle.std.proofs.Common.{rules, ◌≡◌, ap, ◌∙◌}
use Rattle.space.specs.Built.{SpaceHistory}
use Rattle.turn_lock.specs.declared.view.SeatState.TheVariants.{Idle}
use Rattle.turn_lock.specs.Rule.{Sat, answer_of, events_answered, in_state}
use Rattle.turn_lock.proofs.Turning.{noted_row, noted_rows, noted_step, after_step, space_is, turned_at, may_publish, has_published, may_leave}
use Rattle.turn_lock.proofs.steps.turn_noted.Goals as goal

pub publish_noted-requires-clause-called : goal.publish_noted-requires-clause-called
publish_noted-requires-clause-called g c =
    let x = c.enter-desk.ensures.entered in
    let opened : c.deref_mut.result.now ≡ c.enter-desk.result = search rules in
    let there = opened ∙ x.3 in
    let v = c.args.seat.now.me.0 in
    let e = c.args.event in
    let n = c.turn_noted-noted.result in
    let s2 : SpaceHistory = c.turn_noted-noted.new.self in
    let part = c.requires.idle.2 in
    let step = noted_step n v.config x.1 c.deref_mut.result.now s2 e there c.turn_noted-noted.ensures.step c.turn_noted-noted.ensures.err in
    let is = space_is s2 v.config (events_answered x.1 e (answer_of n))
    (noted_rows n v.config x.1 c.deref_mut.result.now s2 e there c.turn_noted-noted.ensures.config c.turn_noted-noted.ensures.collector c.turn_noted-noted.ensures.refused c.turn_noted-noted.ensures.err)
    (c.turn_noted-noted.ensures.config ∙ ap (λ (s : SpaceHistory). s.configuration) there) (after_step v.config x.1 s2.events e (answer_of n) step) in
    may_publish c.enter-desk.new.seat.me v x.0 x.1 c.of-taken.result.value e (answer_of n) s2 x.4 c.of-taken.ensures c.requires.number part is

pub leave-requires-clause-called : goal.leave-requires-clause-called
leave-requires-clause-called g c =
    let x = c.enter-desk.ensures.entered in
    let opened : c.deref_mut.result.now ≡ c.enter-desk.result = search rules in
    let there = opened ∙ x.3 in
    let v = c.args.seat.now.me.0 in
    let e = c.args.event in
    let n = c.turn_noted-noted.result in
    let s2 : SpaceHistory = c.turn_noted-noted.new.self in
    let part = c.requires.idle.2 in
    let step = noted_step n v.config x.1 c.deref_mut.result.now s2 e there c.turn_noted-noted.ensures.step c.turn_noted-noted.ensures.err in
    let is = space_is s2 v.config (events_answered x.1 e (answer_of n))
    (noted_rows n v.config x.1 c.deref_mut.result.now s2 e there c.turn_noted-noted.ensures.config c.turn_noted-noted.ensures.collector c.turn_noted-noted.ensures.refused c.turn_noted-noted.ensures.err)
    (c.turn_noted-noted.ensures.config ∙ ap (λ (s : SpaceHistory). s.configuration) there) (after_step v.config x.1 s2.events e (answer_of n) step) in
    let told = has_published c.enter-desk.new.seat.me c.publish_noted.new.seat.me v x.0 x.1 c.of-taken.result.value e (answer_of n) x.4 c.of-taken.ensures c.publish_noted.ensures.view in
    may_leave c.publish_noted.new.seat.me v x.0 x.1 e (answer_of n) s2 told part is

pub returns-clause-turned : goal.returns-clause-turned
returns-clause-turned g c =
    let x = c.enter-desk.ensures.entered in
    let opened : c.deref_mut.result.now ≡ c.enter-desk.result = search rules in
    let there = opened ∙ x.3 in
    let v = c.args.seat.now.me.0 in
    let e = c.args.event in
    let n = c.turn_noted-noted.result in
    let s2 : SpaceHistory = c.turn_noted-noted.new.self in
    let step = noted_step n v.config x.1 c.deref_mut.result.now s2 e there c.turn_noted-noted.ensures.step c.turn_noted-noted.ensures.err in
    let told = has_published c.enter-desk.new.seat.me c.publish_noted.new.seat.me v x.0 x.1 c.of-taken.result.value e (answer_of n) x.4 c.of-taken.ensures c.publish_noted.ensures.view in (
      x.1,
      turned_at v c.leave.new.seat.me.0 x.0 x.1 e (answer_of n) s2.events c.requires.idle.0 x.2 step (ap (λ (m : Sat). m.0) c.leave.ensures.view ∙ ap (λ (m : Sat). in_state m.0 Idle) told),
      noted_row n v.config x.1 e.by e.ask c.deref_mut.result.now there c.turn_noted-noted.ensures.row,
    )
