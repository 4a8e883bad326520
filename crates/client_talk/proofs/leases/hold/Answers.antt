use Rattle.std.proofs.Common.{◌∷◌, Ok, Err, ap}
use Rattle.dgc_client.specs.Log.{Registers}
use Rattle.client_talk.proofs.Leasing.{held_new, held_known, unheld_on, not_refused, noted_as, kept_as}
use Rattle.client_talk.proofs.Stepping.{stands_same}
use Rattle.client_talk.proofs.leases.hold.Goals as goal

pub returns-in-Ok-true-clause-notes : goal.returns-in-Ok-true-clause-notes
returns-in-Ok-true-clause-notes g c s k links given lessee log next keeps here stands =
    let answer = c.in-Ok-true.ensures.answer lessee.client lessee.first log keeps.stands in
    let fresh = rw c.in-Ok-true.field-0-test at answer in
    c.send_due.ensures.notes s k links given lessee (Registers c.args.object.now ∷ log) next (noted_as lessee c.args.leases.now c.register.new.self log _ keeps (c.in-Ok-true.ensures.ok lessee.client lessee.first log keeps.stands)) here
    (held_new s links given _ k lessee c.args.object.now log next stands fresh (λ full. not_refused _ _ ((c.in-Ok-true.ensures.full lessee.client lessee.first log keeps.stands).1 full)))

pub returns-in-Ok-false-clause-notes : goal.returns-in-Ok-false-clause-notes
returns-in-Ok-false-clause-notes g c s k links given lessee log next keeps here stands =
    let answer = c.in-Ok-false.ensures.answer lessee.client lessee.first log keeps.stands in
    let known = rw c.in-Ok-false.field-0-test at answer in (
      log,
      kept_as lessee c.args.leases.now c.register.new.self log keeps (c.in-Ok-false.ensures.same (ap Ok c.in-Ok-false.field-0-test)),
      stands_same s _ k links _ given _ here (held_known s links given _ k lessee c.args.object.now log next stands known),
    )

pub returns-in-Err-clause-notes : goal.returns-in-Err-clause-notes
returns-in-Err-clause-notes g c s k links given lessee log next keeps here stands =
    unheld_on s k links given _ _ lessee c.args.object.now log next c.in-Err.fault here stands
    c.in-Err.ensures.faults (λ is. (c.in-Err.ensures.full lessee.client lessee.first log keeps.stands).0 (ap Err is))
