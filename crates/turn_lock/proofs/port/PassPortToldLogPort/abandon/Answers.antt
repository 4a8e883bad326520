use Rattle.std.proofs.Common.{◌+◌, length, refl}
use Rattle.turn_lock.specs.Handles.{view_of}
use Rattle.turn_lock.proofs.PortSteps.{tied_told_end, went_ended, shown_now}
use Rattle.turn_lock.proofs.port.PassPortToldLogPort.abandon.Goals as goal

pub abandon-place-requires-clause-runs : goal.abandon-place-requires-clause-runs
abandon-place-requires-clause-runs g c =
    let p = c.args.self.now.pass.now in
    let before = c.args.self.now.asked in
    shown_now (view_of p) p.number before (length before + length before) c.args.object c.requires.ready.0.numbered c.requires.ready.1 c.requires.runs

pub returns-clause-ready : goal.returns-clause-ready
returns-clause-ready g c =
    let p = c.args.self.now.pass.now in
    let t = c.abandon-place.ensures.turned in (
      c.abandon-place.ensures.pass.0,
      tied_told_end (view_of p) (view_of c.abandon-place.new.self) t.0 p.number c.args.moment c.args.object c.args.self.now.asked c.push_abandoned.new.self c.abandon-place.result
          c.requires.ready.0.numbered t.1 c.requires.ready.1 c.requires.runs c.push_abandoned.ensures,
    )

pub returns-clause-leads : goal.returns-clause-leads
returns-clause-leads g c =
    let p = c.args.self.now.pass.now in
    let t = c.abandon-place.ensures.turned in
    let after = c.abandon-place.ensures.pass in (
      refl,
      refl,
      went_ended p c.abandon-place.new.self c.args.self.now.asked c.push_abandoned.new.self t.0 p.number c.args.moment c.args.object c.abandon-place.result c.requires.ready.0.numbered t.1 t.2 t.3 c.push_abandoned.ensures after.1,
    )

pub returns-clause-ended : goal.returns-clause-ended
returns-clause-ended g c = (c.abandon-place.result, c.push_abandoned.ensures, c.abandon-place.ensures.turned)
