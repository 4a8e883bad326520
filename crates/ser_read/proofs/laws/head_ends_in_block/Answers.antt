use Rattle.ser_read.proofs.Heading.{head_ends}
use Rattle.ser_read.proofs.laws.head_ends_in_block.Goals as goal

pub returns : goal.returns
returns c = head_ends
