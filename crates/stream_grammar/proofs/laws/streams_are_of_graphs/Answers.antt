use Rattle.stream_grammar.proofs.Exact.{graph_of_stream}
use Rattle.stream_grammar.proofs.laws.streams_are_of_graphs.Goals as goal

pub returns : goal.returns
returns c = graph_of_stream
