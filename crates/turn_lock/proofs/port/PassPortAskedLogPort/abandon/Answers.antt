use Rattle.std.proofs.Common.{refl, arith}
use Rattle.turn_lock.specs.Handles.{view_of}
use Rattle.turn_lock.proofs.PortSteps.{tied_ended, went_ended, shown_now}
use Rattle.turn_lock.proofs.port.PassPortAskedLogPort.abandon.Goals as goal

pub abandon-place-requires-clause-runs : goal.abandon-place-requires-clause-runs
abandon-place-requires-clause-runs g c =
    let p = c.args.self.now.pass.now in
    shown_now (view_of p) p.number c.args.self.now.asked.items c.args.self.now.asked.capacity c.args.object c.requires.ready.0.numbered c.requires.ready.1 c.requires.runs

pub returns-clause-ready : goal.returns-clause-ready
returns-clause-ready g c =
    let p = c.args.self.now.pass.now in
    let t = c.abandon-place.ensures.turned in
    let capacity = c.push_reserved.ensures.capacity in (
      c.abandon-place.ensures.pass.0,
      tied_ended (view_of p) (view_of c.abandon-place.new.self) t.0 p.number c.args.moment c.args.object _ c.args.self.now.asked.items c.push_reserved.new.self.items c.abandon-place.result c.args.self.now.asked.capacity c.push_reserved.new.self.capacity
          c.requires.ready.0.numbered refl t.1 c.requires.ready.1 c.requires.runs c.push_reserved.ensures.items (omega (arith, capacity)),
    )

pub returns-clause-leads : goal.returns-clause-leads
returns-clause-leads g c =
    let p = c.args.self.now.pass.now in
    let t = c.abandon-place.ensures.turned in
    let after = c.abandon-place.ensures.pass in (
      refl,
      refl,
      went_ended p c.abandon-place.new.self c.args.self.now.asked.items c.push_reserved.new.self.items t.0 p.number c.args.moment c.args.object c.abandon-place.result c.requires.ready.0.numbered t.1 t.2 t.3 c.push_reserved.ensures.items after.1,
    )

pub returns-clause-ended : goal.returns-clause-ended
returns-clause-ended g c = (c.abandon-place.result, c.push_reserved.ensures.items, c.abandon-place.ensures.turned)
