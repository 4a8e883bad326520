use Rattle.std.proofs.Common.{◌≡◌, ◌<◌, ◌∷◌, [], ap, ◌∙◌, subst, sym, arith, Some, None}
use Rattle.atomic_table.specs.Table.{rest}
use Rattle.turn_lock.specs.declared.view.SeatState.TheVariants.{Idle}
use Rattle.turn_lock.specs.Rule.{Sat, holding, in_state, space_with}
use Rattle.turn_lock.proofs.At.{advances_at}
use Rattle.turn_lock.proofs.Turning.{alone, swapped}
use Rattle.turn_lock.proofs.steps.leave.Goals as goal

pub exchange-requires : goal.exchange-requires
exchange-requires c = (c.requires.table.0, (None, alone _ (0, None) c.requires.called.4))

pub fetch_add-served-requires : goal.fetch_add-served-requires
fetch_add-served-requires c =
    let words = c.requires.table.1 in let called = c.requires.called in
    let me : Sat = c.args.seat.now.me in
    let before : me ≡ (me.0, (0, None) ∷ []) = λ i. (me.0, called.4 i) in
    let back : c.exchange.new.seat.me ≡ (me.0, holding c.args.desk) = swapped me c.exchange.new.seat.me me.0 None (Some c.args.desk) before c.exchange.ensures.3 in (
      c.exchange.ensures.0 ∙ c.requires.table.0,
      omega (arith, words),
      advances_at _ _ _ _ called.0 called.1 c.requires.table.2 (ap (λ (m : Sat). m.0.state) back ∙ called.2) (subst (λ (m : Sat). 0 < m.0.parts) (sym back) called.3)
          (ap (λ (m : Sat). m.1) back ∙ (ap holding called.5 ∙ ap (λ (m : Sat). holding (space_with m.0.config called.1)) (sym back))),
    )

pub returns-clause-view : goal.returns-clause-view
returns-clause-view c =
    let me : Sat = c.args.seat.now.me in
    let before : me ≡ (me.0, (0, None) ∷ []) = λ i. (me.0, c.requires.called.4 i) in
    let back : c.exchange.new.seat.me ≡ (me.0, holding c.args.desk) = swapped me c.exchange.new.seat.me me.0 None (Some c.args.desk) before c.exchange.ensures.3 in
    c.fetch_add-served.ensures.2 ∙ ap (λ (m : Sat). (in_state m.0 Idle, rest m.1)) back
