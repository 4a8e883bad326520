use Rattle.jrmp_frames.proofs.ReturnLaws.{returns_are_read}
use Rattle.jrmp_frames.proofs.laws.returns_are_read.Goals as goal

pub returns : goal.returns
returns c = returns_are_read
