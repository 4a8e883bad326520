use Rattle.rmi_cli.proofs.ArgumentItems.{graph_by}
use Rattle.rmi_cli.proofs.call_arguments.arguments_graph.Goals as goal

pub returns-in-Ok-clause-nodes : goal.returns-in-Ok-clause-nodes
returns-in-Ok-clause-nodes c = (graph_by c.args.arguments.now _ _ _ _ c.in_ok-put_nodes.ensures c.in_ok-items.ensures c.in-Ok.ensures.ok).0

pub returns-in-Ok-clause-items : goal.returns-in-Ok-clause-items
returns-in-Ok-clause-items c = (graph_by c.args.arguments.now _ _ _ _ c.in_ok-put_nodes.ensures c.in_ok-items.ensures c.in-Ok.ensures.ok).1
