use Rattle.history.proofs.AwaitingLaws.{awaits-since-return}
use Rattle.history.proofs.laws.a_reference_awaits_since_its_last_return.Goals as goal

pub returns : goal.returns
returns c = awaits-since-return
