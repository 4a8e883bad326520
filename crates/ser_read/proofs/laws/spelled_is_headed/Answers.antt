use Rattle.ser_read.proofs.Heading.{spelled_is_headed}
use Rattle.ser_read.proofs.laws.spelled_is_headed.Goals as goal

pub returns : goal.returns
returns c = spelled_is_headed
