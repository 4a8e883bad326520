use Rattle.call_dispatch.proofs.Graphs.{copied_same}
use Rattle.call_dispatch.proofs.outcome.copy_graph.Goals as goal

pub returns : goal.returns
returns c = copied_same c.args.graph.now c.copy.result c.copy.ensures.nodes c.copy.ensures.items
