use Rattle.client_talk.proofs.Leasing.{cleaned_on, unasked_on}
use Rattle.client_talk.proofs.leases.send_clean.Goals as goal

pub returns-in-Ok-clause-sends : goal.returns-in-Ok-clause-sends
returns-in-Ok-clause-sends g c s k links given given2 lessee log next keeps here stands =
    cleaned_on s k links given given2 _ _ lessee c.args.plan.now next c.in-Ok._granted here stands (c.in-Ok.ensures.asks lessee log keeps)

pub returns-in-Err-clause-sends : goal.returns-in-Err-clause-sends
returns-in-Err-clause-sends g c s k links given given2 lessee log next keeps here stands =
    unasked_on s k links given given2 _ _ lessee c.args.plan.now _ c.in-Err.end here stands (c.in-Err.ensures.asks lessee log keeps)
