use Rattle.jrmp_frames.proofs.CallLaws.{call_has_head}
use Rattle.jrmp_frames.proofs.laws.call_has_head.Goals as goal

pub returns : goal.returns
returns c = call_has_head
