use Rattle.stream_laws.proofs.FaultLaws.{fault_is_one}
use Rattle.stream_laws.proofs.faults.fault_is_one.Goals as goal

pub returns : goal.returns
returns c = fault_is_one
