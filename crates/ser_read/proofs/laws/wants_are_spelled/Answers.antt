use Rattle.ser_read.proofs.WantLaws.{wants_are_spelled}
use Rattle.ser_read.proofs.laws.wants_are_spelled.Goals as goal

pub returns : goal.returns
returns c = wants_are_spelled
