use Rattle.system_objects.proofs.FaultReturns.{fault_written}
use Rattle.system_objects.proofs.returns.exceptional.Goals as goal

pub returns : goal.returns
returns c = fault_written c.args.uid c.args.message.now c.in_ok-graph.graph c.return_bytes.result c.in_ok-graph.ensures.nodes c.in_ok-graph.ensures.items c.return_bytes.ensures.written
