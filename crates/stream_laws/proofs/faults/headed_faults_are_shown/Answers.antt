use Rattle.stream_laws.proofs.FaultLaws.{headed_faults_are_shown}
use Rattle.stream_laws.proofs.faults.headed_faults_are_shown.Goals as goal

pub returns : goal.returns
returns c = headed_faults_are_shown
