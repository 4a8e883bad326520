use Rattle.std.proofs.Common.{[], refl}
use Rattle.call_dispatch.proofs.MessageSteps.{opened_at_code, one_served}
use Rattle.call_dispatch.proofs.messages.serve_one.Goals as goal

pub returns-in-Ok-clause-goes_on : goal.returns-in-Ok-clause-goes_on
returns-in-Ok-clause-goes_on g c start opening is stands =
    let (e, goes, after) = c.in-Ok.ensures.steps start opening [] refl (opened_at_code opening) stands in
    one_served _ _ _ start _ _ _ opening e is goes after

pub returns-in-Err-clause-goes_on : goal.returns-in-Err-clause-goes_on
returns-in-Err-clause-goes_on g c start opening is stands = c.in-Err.ensures.steps start opening [] refl (opened_at_code opening) stands
