use Rattle.jrmp_frames.proofs.ReturnLaws.{return_is_one}
use Rattle.jrmp_frames.proofs.laws.return_is_one.Goals as goal

pub returns : goal.returns
returns c = return_is_one
