use Rattle.ser_read.proofs.Streams.{faults_stand}
use Rattle.ser_read.proofs.laws.faults_stand_in_bytes.Goals as goal

pub returns : goal.returns
returns c = faults_stand
