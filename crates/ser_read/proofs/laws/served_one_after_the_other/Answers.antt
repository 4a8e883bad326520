use Rattle.ser_read.proofs.WantLaws.{served_after}
use Rattle.ser_read.proofs.laws.served_one_after_the_other.Goals as goal

pub returns : goal.returns
returns c = served_after
