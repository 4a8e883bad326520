use Rattle.std.proofs.Common.{◌≡◌, ap, ◌∙◌, subst, Some, None}
use Rattle.turn_lock.specs.declared.view.SeatState.TheVariants.{Called}
use Rattle.turn_lock.specs.Rule.{Sat, MayComeTo, holding, in_state, space_with}
use Rattle.turn_lock.proofs.Turning.{alone, taken, swapped}
use Rattle.turn_lock.proofs.steps.enter.Goals as goal

pub exchange-requires : goal.exchange-requires
exchange-requires g c =
    let w = c.wait.ensures.view in
    (c.wait.ensures.seat.0 ∙ (c.draw-ticket.ensures.seat.0 ∙ c.requires.table.0), (_, alone _ _ (ap (λ (m : Sat). m.1) w.1)))

pub returns-clause-entered : goal.returns-clause-entered
returns-clause-entered g c =
    let w = c.wait.ensures.view in
    let t = c.draw-ticket.result in
    let v = c.args.seat.now.me.0 in
    let at_call : c.wait.new.seat.me ≡ (in_state v (Called t w.0), holding (space_with v.config w.0)) =
    w.1 ∙ ap (λ (m : Sat). (in_state m.0 (Called t w.0), holding (space_with m.0.config w.0))) c.draw-ticket.ensures.view in (
      t,
      w.0,
      subst (λ (m : Sat). MayComeTo m.0 w.0) c.draw-ticket.ensures.view w.2,
      taken _ (space_with v.config w.0) _ _ (ap (λ (m : Sat). m.1) at_call) c.exchange.ensures.2 c.unwrap.ensures,
      swapped _ _ (in_state v (Called t w.0)) (Some (space_with v.config w.0)) None at_call c.exchange.ensures.3,
    )
