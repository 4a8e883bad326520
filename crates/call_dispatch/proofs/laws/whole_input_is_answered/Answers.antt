use Rattle.call_dispatch.proofs.Completing as completing
use Rattle.call_dispatch.proofs.laws.whole_input_is_answered.Goals as goal

pub returns : goal.returns
returns c = completing.whole_input_is_answered
