use Rattle.stream_laws.proofs.FaultLaws.{faults_are_shown}
use Rattle.stream_laws.proofs.faults.faults_are_shown.Goals as goal

pub returns : goal.returns
returns c = faults_are_shown
