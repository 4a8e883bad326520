use Rattle.stream_laws.proofs.FaultLaws.{references_are_read}
use Rattle.stream_laws.proofs.faults.references_are_read.Goals as goal

pub returns : goal.returns
returns c = references_are_read
