use Rattle.stream_laws.proofs.FaultLaws.{want_fault_is_one}
use Rattle.stream_laws.proofs.faults.want_fault_is_one.Goals as goal

pub returns : goal.returns
returns c = want_fault_is_one
