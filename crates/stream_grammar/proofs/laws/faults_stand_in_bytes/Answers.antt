use Rattle.stream_grammar.proofs.Standing.{faults_stand}
use Rattle.stream_grammar.proofs.laws.faults_stand_in_bytes.Goals as goal

pub returns : goal.returns
returns c = faults_stand
