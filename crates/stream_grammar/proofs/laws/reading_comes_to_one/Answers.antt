use Rattle.stream_grammar.proofs.Standing.{comes_to_one}
use Rattle.stream_grammar.proofs.laws.reading_comes_to_one.Goals as goal

pub returns : goal.returns
returns c = comes_to_one
