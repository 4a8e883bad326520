use Rattle.java_shapes.proofs.LeaseGraph.{two_on}
use Rattle.java_shapes.proofs.lease_graphs.add_vmid.Goals as goal

pub returns : goal.returns
returns c = two_on c.push.result _ _ c.args.nodes.now _ _ (rw c.in_ok-parts.ensures at c.push.ensures.ok) (rw c.in_ok-units_of_ascii.ensures.value at c.in_ok-add_text.ensures)
