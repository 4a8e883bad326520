use Rattle.jrmp_frames.proofs.ReturnLaws.{written_is_return}
use Rattle.jrmp_frames.proofs.laws.written_is_return.Goals as goal

pub returns : goal.returns
returns c = written_is_return
