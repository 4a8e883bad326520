use Rattle.stream_laws.proofs.FaultLaws.{want_faults_are_shown}
use Rattle.stream_laws.proofs.faults.want_faults_are_shown.Goals as goal

pub returns : goal.returns
returns c = want_faults_are_shown
