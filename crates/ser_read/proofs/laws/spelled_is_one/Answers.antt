use Rattle.ser_read.proofs.WantLaws.{spelled_is_one}
use Rattle.ser_read.proofs.laws.spelled_is_one.Goals as goal

pub returns : goal.returns
returns c = spelled_is_one
