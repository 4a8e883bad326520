use Rattle.ser_read.proofs.WantLaws.{spelled_are_streams}
use Rattle.ser_read.proofs.laws.spelled_are_streams.Goals as goal

pub returns : goal.returns
returns c = spelled_are_streams
