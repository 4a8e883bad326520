use Rattle.std.proofs.Common.{refl}
use Rattle.turn_lock.specs.declared.handles.Pass.{Pass}
use Rattle.turn_lock.specs.Handles.{view_of}
use Rattle.turn_lock.specs.Rule.{answer_of}
use Rattle.turn_lock.proofs.Passes.{pass_after}
use Rattle.turn_lock.proofs.Turning.{noted_cases}
use Rattle.turn_lock.proofs.handles.Pass.turn_noted.Goals as goal

pub returns-clause-pass : goal.returns-clause-pass
returns-clause-pass g c =
    let p : Pass = c.args.self.now in
    let q : Pass = record { seat = c.turn_noted.new.seat; number = p.number } in
    let e = c.turn_noted.ensures.seat in
    let t = c.turn_noted.ensures.turned in
    (pass_after c.args.lock.now p q t.0 p.number c.args.moment c.args.ask (answer_of c.turn_noted.result) c.requires.own refl e.0 e.2 refl t.1, e.1, refl)

pub returns-clause-turned : goal.returns-clause-turned
returns-clause-turned g c =
    let t = c.turn_noted.ensures.turned in
    noted_cases c.turn_noted.result (view_of c.args.self.now) c.turn_noted.new.seat.me.0 t.0 c.args.self.now.number c.args.moment c.args.ask t.1 t.2

pub returns-clause-ordered : goal.returns-clause-ordered
returns-clause-ordered g c = (returns-clause-pass g c).0.ordered
