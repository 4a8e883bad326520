use Rattle.std.proofs.Common.{◌∙◌, w64, rules}
use Rattle.std.specs.Prelude.{FitsSigned}
use Rattle.std.proofs.lemmas.Int.{to_z-of_z}
use Rattle.client_talk.proofs.Leasing.{renewed_on, unasked_on, answered_as}
use Rattle.client_talk.proofs.leases.renew.Goals as goal

pub returns-in-Ok-clause-notes : goal.returns-in-Ok-clause-notes
returns-in-Ok-clause-notes g c s k links given lessee log next keeps here stands = let fits : FitsSigned w64 c.number_of_plan.result = search rules in (
  _,
  answered_as lessee c.args.leases.now c.answered.new.self log c.args.plan.now _ c.in-Ok.granted c.now-now.result keeps (to_z-of_z w64 c.number_of_plan.result fits ∙ c.number_of_plan.ensures) (c.answered.ensures.stands lessee.client lessee.first log keeps.stands),
  renewed_on s k links given _ _ _ _ lessee c.args.plan.now log next c.in-Ok.granted c.now-now.result here stands (c.in-Ok.ensures.asks lessee log keeps) c.now-now.ensures.given,
)

pub returns-in-Err-clause-notes : goal.returns-in-Err-clause-notes
returns-in-Err-clause-notes g c s k links given lessee log next keeps here stands =
    unasked_on s k links given _ _ _ lessee c.args.plan.now _ c.in-Err.end here stands (c.in-Err.ensures.asks lessee log keeps)
