use Rattle.std.proofs.Common.{rules, ◌≡◌, ap, ◌∙◌}
use Rattle.turn_lock.specs.declared.view.SeatState.TheVariants.{Idle}
use Rattle.turn_lock.specs.Rule.{Sat, in_state}
use Rattle.turn_lock.proofs.Seeing.{may_pass, has_passed, may_go, sees_more}
use Rattle.turn_lock.proofs.steps.take_recent.Goals as goal

pub pass_over-requires-clause-called : goal.pass_over-requires-clause-called
pass_over-requires-clause-called g c =
    let x = c.enter-desk.ensures.entered in
    let opened : c.deref_mut.result.now ≡ c.enter-desk.result = search rules in
    let there = opened ∙ x.3 in
    may_pass c.enter-desk.new.seat.me c.args.seat.now.me.0 x.0 x.1 c.take_recent-part.new.self x.4 c.requires.idle.2 (c.take_recent-part.ensures.same ∙ there)

pub leave-requires-clause-called : goal.leave-requires-clause-called
leave-requires-clause-called g c =
    let x = c.enter-desk.ensures.entered in
    let opened : c.deref_mut.result.now ≡ c.enter-desk.result = search rules in
    let there = opened ∙ x.3 in
    let v = c.args.seat.now.me.0 in
    let told = has_passed c.enter-desk.new.seat.me c.pass_over.new.seat.me v x.0 x.1 x.4 c.pass_over.ensures.view in
    may_go c.pass_over.new.seat.me v x.0 x.1 c.take_recent-part.new.self told c.requires.idle.2 (c.take_recent-part.ensures.same ∙ there)

pub returns-clause-sees : goal.returns-clause-sees
returns-clause-sees g c =
    let x = c.enter-desk.ensures.entered in
    let opened : c.deref_mut.result.now ≡ c.enter-desk.result = search rules in
    let there = opened ∙ x.3 in
    let v = c.args.seat.now.me.0 in
    let told = has_passed c.enter-desk.new.seat.me c.pass_over.new.seat.me v x.0 x.1 x.4 c.pass_over.ensures.view in
    sees_more v c.leave.new.seat.me.0 x.0 x.1 c.requires.idle.0 x.2 (ap (λ (m : Sat). m.0) c.leave.ensures.view ∙ ap (λ (m : Sat). in_state m.0 Idle) told)
