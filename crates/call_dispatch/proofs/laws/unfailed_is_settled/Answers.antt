use Rattle.call_dispatch.proofs.Completing as completing
use Rattle.call_dispatch.proofs.laws.unfailed_is_settled.Goals as goal

pub returns : goal.returns
returns c = completing.unfailed_is_settled
