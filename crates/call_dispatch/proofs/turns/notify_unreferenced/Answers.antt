use Rattle.std.proofs.Common.{◌≡◌, ◌∙◌, arith, refl, take}
use Rattle.std.proofs.lemmas.Grind.{common_steps}
use Rattle.call_dispatch.proofs.Leading.{led_told, led_told_more}
use Rattle.call_dispatch.proofs.turns.notify_unreferenced.Goals as goal

pub loop-object-preserved : goal.loop-object-preserved
loop-object-preserved g c = (
  (λ asked given.
      led_told_more _ _ _ _ _ c.args.gone.now c.loop-object.object-index _ _ c.loop-object-test.true refl (c.loop-object.invariant.0 asked given)
      (led_told _ _ asked given _ _ _ _ _ _ _ _ _ c.unreferenced.ensures.number c.unreferenced.ensures.calls c.unreferenced.ensures.seen c.unreferenced.ensures.state)),
  c.unreferenced.ensures.calls ∙ c.loop-object.invariant.1,
)

pub returns-clause-led : goal.returns-clause-led
returns-clause-led g c asked given =
    let whole : take c.loop-object.object-index c.args.gone.now ≡ c.args.gone.now = grind (arith, common_steps) in
    rw whole at c.loop-object.invariant.0 asked given
