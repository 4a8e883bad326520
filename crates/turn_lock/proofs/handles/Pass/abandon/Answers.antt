use Rattle.std.proofs.Common.{refl}
use Rattle.history.specs.declared.asks.Ask.TheVariants.{Abandon}
use Rattle.turn_lock.specs.declared.handles.Pass.{Pass}
use Rattle.turn_lock.proofs.Passes.{pass_after}
use Rattle.turn_lock.proofs.handles.Pass.abandon.Goals as goal

pub returns-clause-pass : goal.returns-clause-pass
returns-clause-pass g c =
    let p : Pass = c.args.self.now in
    let q : Pass = record { seat = c.abandon.new.seat; number = p.number } in
    let e = c.abandon.ensures.seat in
    let t = c.abandon.ensures.turned in
    (pass_after c.args.lock.now p q t.0 p.number c.args.moment (Abandon c.args.object) _ c.requires.own refl e.0 e.2 refl t.1, e.1, refl)

pub returns-clause-ordered : goal.returns-clause-ordered
returns-clause-ordered g c = (returns-clause-pass g c).0.ordered
