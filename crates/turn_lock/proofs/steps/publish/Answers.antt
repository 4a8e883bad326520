use Rattle.std.proofs.Common.{◌∷◌, ◌++◌, [], ap, ◌∙◌, subst, sym, length, arith}
use Rattle.history.specs.declared.asks.Event.{Event}
use Rattle.history.specs.Steps.{IsLegal}
use Rattle.space.specs.Built.{SpaceHistory}
use Rattle.turn_lock.proofs.At.{publishes_at}
use Rattle.turn_lock.proofs.steps.publish.Goals as goal

pub store-requires : goal.store-requires
store-requires g c =
    let words = c.requires.table.1 in let called = c.requires.called in let named = c.requires.named in
    let h = called.1 in
    let config = c.args.seat.now.me.0.config in
    let legal = subst (λ (s : SpaceHistory). IsLegal s.configuration s.events) called.5 c.len.ensures.legal in (
      c.requires.table.0,
      omega (arith, words),
      publishes_at _ _ _ _ called.0 h _ _ c.requires.table.2 called.2 called.3 (ap (λ (e : Event). e.by) (sym named) ∙ called.4)
          (c.len.ensures.value ∙ (ap (λ (s : SpaceHistory). length s.events) called.5 ∙ ap (λ (e : Event). length (h ++ e ∷ [])) named))
          (subst (λ (e : Event). IsLegal config (h ++ e ∷ [])) named legal),
    )
