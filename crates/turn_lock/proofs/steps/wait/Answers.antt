use Rattle.std.proofs.Common.{◌<◌, ◌∙◌, ap, subst, sym, arith}
use Rattle.turn_lock.specs.Rule.{Sat}
use Rattle.turn_lock.proofs.At.{looks_at}
use Rattle.turn_lock.proofs.steps.wait.Goals as goal

pub load-served-requires : goal.load-served-requires
load-served-requires g c =
    let words = c.requires.table.1 in let i = c.loop.invariant in let d = c.requires.drawn in (
      i.table ∙ c.requires.table.0,
      omega (arith, words),
      looks_at _ _ _ _ c.args.ticket c.requires.table.2 (ap (λ (m : Sat). m.0.state) i.me ∙ d.0) (ap (λ (m : Sat). m.1) i.me ∙ d.1) (subst (λ (m : Sat). 0 < m.0.parts) (sym i.me) d.2),
    )
