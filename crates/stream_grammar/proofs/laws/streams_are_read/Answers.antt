use Rattle.stream_grammar.proofs.Exact.{are_read}
use Rattle.stream_grammar.proofs.laws.streams_are_read.Goals as goal

pub returns : goal.returns
returns c = are_read
