use Rattle.ser_read.proofs.Heading.{head_goes_on}
use Rattle.ser_read.proofs.laws.head_goes_on.Goals as goal

pub returns : goal.returns
returns c = head_goes_on
