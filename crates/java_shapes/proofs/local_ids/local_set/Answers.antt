use Rattle.std.proofs.Common.{◌∙◌, sym}
use Rattle.java_shapes.proofs.LocalLaws.{local_step, local_none}
use Rattle.java_shapes.proofs.local_ids.local_set.Goals as goal

pub loop-number-init : goal.loop-number-init
loop-number-init c = c.new-ids.ensures.empty ∙ sym (local_none c.args.graph.now.nodes c.args.host.now _)

pub loop-number-preserved : goal.loop-number-preserved
loop-number-preserved c = local_step c.args.graph.now.nodes c.as_slice-nodes.result.now c.args.host.now _ c.loop-number.number c.loop-number.ids.keys c.add_node.new.ids.keys (c.as_slice-nodes.ensures ∙ c.nodes.ensures) c.loop-number.invariant c.in_ok-add_node.ensures
