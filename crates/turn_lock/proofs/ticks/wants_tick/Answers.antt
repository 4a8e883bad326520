use Rattle.std.proofs.Common.{rules, ◌≡◌, ◌⊎◌, ◌<◌, [], length, ap, ◌∙◌, subst, sym}
use Rattle.space.specs.Built.{SpaceHistory}
use Rattle.space.specs.Idle.{SomethingEnds, TickChangesNothing, untold_of}
use Rattle.turn_lock.specs.declared.view.View.{View}
use Rattle.turn_lock.specs.declared.view.SeatState.TheVariants.{Idle}
use Rattle.turn_lock.specs.NoTick.{NeedsNoTick, NeedsTick}
use Rattle.turn_lock.specs.Rule.{Sat, in_state}
use Rattle.turn_lock.proofs.Seeing.{looked, may_pass, has_passed, may_go, sees_more}
use Rattle.turn_lock.proofs.ticks.wants_tick.Goals as goal

pub pass_over-requires-clause-called : goal.pass_over-requires-clause-called
pass_over-requires-clause-called g c =
    let x = c.enter-desk.ensures.entered in
    may_pass c.enter-desk.new.seat.me c.args.seat.now.me.0 x.0 x.1 c.enter-desk.result x.4 c.requires.idle.2 x.3

pub leave-requires-clause-called : goal.leave-requires-clause-called
leave-requires-clause-called g c =
    let x = c.enter-desk.ensures.entered in
    let v = c.args.seat.now.me.0 in
    let told = has_passed c.enter-desk.new.seat.me c.pass_over.new.seat.me v x.0 x.1 x.4 c.pass_over.ensures.view in
    may_go c.pass_over.new.seat.me v x.0 x.1 c.enter-desk.result told c.requires.idle.2 x.3

pub returns-clause-sees : goal.returns-clause-sees
returns-clause-sees g c =
    let x = c.enter-desk.ensures.entered in
    let v = c.args.seat.now.me.0 in
    let told = has_passed c.enter-desk.new.seat.me c.pass_over.new.seat.me v x.0 x.1 x.4 c.pass_over.ensures.view in
    sees_more v c.leave.new.seat.me.0 x.0 x.1 c.requires.idle.0 x.2 (ap (λ (m : Sat). m.0) c.leave.ensures.view ∙ ap (λ (m : Sat). in_state m.0 Idle) told)

pub returns-clause-due : goal.returns-clause-due
returns-clause-due g c is =
    let x = c.enter-desk.ensures.entered in
    let v = c.args.seat.now.me.0 in
    let opened : c.deref.result.now ≡ c.enter-desk.result = search rules in
    let told = has_passed c.enter-desk.new.seat.me c.pass_over.new.seat.me v x.0 x.1 x.4 c.pass_over.ensures.view in
    let after : c.leave.new.seat.me.0 ≡ in_state (looked v x.0 x.1) Idle = ap (λ (m : Sat). m.0) c.leave.ensures.view ∙ ap (λ (m : Sat). in_state m.0 Idle) told in
    subst (λ (y : View). NeedsTick y c.args.moment) (sym after)
    (subst (λ (s : SpaceHistory). SomethingEnds s.configuration s.events c.args.moment ⊎ (0 < length (untold_of s.configuration s.events))) (opened ∙ x.3) (c.wants_tick-ended.ensures.due is))

pub returns-clause-idle : goal.returns-clause-idle
returns-clause-idle g c none =
    let x = c.enter-desk.ensures.entered in
    let v = c.args.seat.now.me.0 in
    let opened : c.deref.result.now ≡ c.enter-desk.result = search rules in
    let told = has_passed c.enter-desk.new.seat.me c.pass_over.new.seat.me v x.0 x.1 x.4 c.pass_over.ensures.view in
    let after : c.leave.new.seat.me.0 ≡ in_state (looked v x.0 x.1) Idle = ap (λ (m : Sat). m.0) c.leave.ensures.view ∙ ap (λ (m : Sat). in_state m.0 Idle) told in
    let w = c.wants_tick-ended.ensures in
    subst (λ (y : View). NeedsNoTick y c.args.moment) (sym after)
    (subst (λ (s : SpaceHistory). TickChangesNothing s.configuration s.events c.args.moment × (untold_of s.configuration s.events ≡ [])) (opened ∙ x.3) (w.change none, w.reported none))
