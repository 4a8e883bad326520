use Rattle.std.proofs.Common.{refl}
use Rattle.turn_lock.specs.declared.handles.Pass.{Pass}
use Rattle.turn_lock.proofs.Passes.{pass_after}
use Rattle.turn_lock.proofs.handles.Pass.turn.Goals as goal

pub returns-clause-pass : goal.returns-clause-pass
returns-clause-pass g c =
    let p : Pass = c.args.self.now in
    let q : Pass = record { seat = c.turn.new.seat; number = p.number } in
    let e = c.turn.ensures.seat in
    let t = c.turn.ensures.turned in
    (pass_after c.args.lock.now p q t.0 p.number c.args.moment c.args.ask c.turn.result c.requires.own refl e.0 e.2 refl t.1, e.1, refl)

pub returns-clause-ordered : goal.returns-clause-ordered
returns-clause-ordered g c = (returns-clause-pass g c).0.ordered
