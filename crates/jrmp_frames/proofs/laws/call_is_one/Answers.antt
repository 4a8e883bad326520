use Rattle.jrmp_frames.proofs.CallLaws.{call_is_one}
use Rattle.jrmp_frames.proofs.laws.call_is_one.Goals as goal

pub returns : goal.returns
returns c = call_is_one
