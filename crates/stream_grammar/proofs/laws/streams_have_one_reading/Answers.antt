use Rattle.stream_grammar.proofs.OneReading.{one_reading}
use Rattle.stream_grammar.proofs.laws.streams_have_one_reading.Goals as goal

pub returns : goal.returns
returns c = λ nodes others items contents bytes h g. one_reading nodes others items contents bytes h g
