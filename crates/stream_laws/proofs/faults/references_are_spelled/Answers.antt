use Rattle.stream_laws.proofs.FaultLaws.{references_are_spelled}
use Rattle.stream_laws.proofs.faults.references_are_spelled.Goals as goal

pub returns : goal.returns
returns c = references_are_spelled
