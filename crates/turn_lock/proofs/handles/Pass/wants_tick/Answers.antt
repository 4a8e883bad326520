use Rattle.std.proofs.Common.{refl}
use Rattle.turn_lock.specs.declared.handles.Pass.{Pass}
use Rattle.turn_lock.proofs.Seeing.{pass_sees, went_sees}
use Rattle.turn_lock.proofs.handles.Pass.wants_tick.Goals as goal

pub returns-clause-pass : goal.returns-clause-pass
returns-clause-pass g c =
    let p : Pass = c.args.self.now in
    let q : Pass = record { seat = c.wants_tick.new.seat; number = p.number } in
    let e = c.wants_tick.ensures.seat in
    (pass_sees c.args.lock.now p q c.requires.own e.0 e.2 refl c.wants_tick.ensures.sees, refl)

pub returns-clause-went : goal.returns-clause-went
returns-clause-went g c =
    let p : Pass = c.args.self.now in
    let q : Pass = record { seat = c.wants_tick.new.seat; number = p.number } in
    let e = c.wants_tick.ensures.seat in
    went_sees p q e.1 c.wants_tick.ensures.sees
