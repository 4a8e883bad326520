use Rattle.call_dispatch.proofs.Invoking as invoking
use Rattle.call_dispatch.proofs.laws.dialogue_invokes_each_once.Goals as goal

pub returns : goal.returns
returns c = invoking.dialogue_invokes
