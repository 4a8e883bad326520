use Rattle.std.proofs.Common.{◌∷◌, Err, ap}
use Rattle.dgc_client.specs.Log.{Dues}
use Rattle.client_talk.proofs.Leasing.{plan_on, refused_on, noted_as}
use Rattle.client_talk.proofs.Stepping.{clock_on, stands_same}
use Rattle.client_talk.proofs.leases.send_due.Goals as goal

pub returns-in-Ok-Some-clause-notes : goal.returns-in-Ok-Some-clause-notes
returns-in-Ok-Some-clause-notes g c s k links given lessee log next keeps here stands =
    let few = c.in-Ok-Some.ensures.left lessee.client lessee.first log keeps.stands in
    let planned = c.in-Ok-Some.ensures.plan lessee.client lessee.first log keeps.stands in
    let same = rw c.in-Ok-Some.field-0-is at planned in
    c.renew.ensures.notes s k links given lessee (Dues c.now-now.result ∷ log) next (noted_as lessee c.args.leases.now c.due.new.self log _ keeps (c.in-Ok-Some.ensures.ok lessee.client lessee.first log keeps.stands)) here
    (plan_on s links given _ lessee log (Dues c.now-now.result) _ _ _ (clock_on s links given _ _ c.now-now.result _ stands c.now-now.ensures.given) few same)

pub returns-in-Ok-None-clause-notes : goal.returns-in-Ok-None-clause-notes
returns-in-Ok-None-clause-notes g c s k links given lessee log next keeps here stands =
    let few = c.in-Ok-None.ensures.left lessee.client lessee.first log keeps.stands in
    let planned = c.in-Ok-None.ensures.plan lessee.client lessee.first log keeps.stands in
    let same = rw c.in-Ok-None.field-0-is at planned in (
      _,
      noted_as lessee c.args.leases.now c.due.new.self log (Dues c.now-now.result) keeps (c.in-Ok-None.ensures.ok lessee.client lessee.first log keeps.stands),
      stands_same s _ k links _ given _ here
          (plan_on s links given _ lessee log (Dues c.now-now.result) _ _ _ (clock_on s links given _ _ c.now-now.result _ stands c.now-now.ensures.given) few same),
    )

pub returns-in-Err-clause-notes : goal.returns-in-Err-clause-notes
returns-in-Err-clause-notes g c s k links given lessee log next keeps here stands =
    refused_on s k links given _ _ lessee log (Dues c.now-now.result) _ _ c.in-Err.fault here (clock_on s links given _ _ c.now-now.result _ stands c.now-now.ensures.given)
    c.in-Err.ensures.faults (λ is. c.in-Err.ensures.spent (ap Err is) lessee.client lessee.first log keeps.stands)
