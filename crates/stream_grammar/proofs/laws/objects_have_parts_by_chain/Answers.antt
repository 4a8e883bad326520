use Rattle.stream_grammar.proofs.ChainParts.{parts_by_chain}
use Rattle.stream_grammar.proofs.laws.objects_have_parts_by_chain.Goals as goal

pub returns : goal.returns
returns c = parts_by_chain
