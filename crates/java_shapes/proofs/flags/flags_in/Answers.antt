use Rattle.std.proofs.Common.{◌∙◌}
use Rattle.java_shapes.proofs.Flagged.{flags_step, flags_none}
use Rattle.java_shapes.proofs.flags.flags_in.Goals as goal

pub loop-number-init : goal.loop-number-init
loop-number-init c = c.new-places.ensures.items ∙ flags_none c.args.graph.now.nodes

pub loop-number-preserved : goal.loop-number-preserved
loop-number-preserved c = flags_step c.args.graph.now.nodes c.as_slice-nodes.result.now c.loop-number.number c.loop-number.places.items c.add_flag.new.places.items (c.as_slice-nodes.ensures ∙ c.nodes.ensures) c.loop-number.invariant c.in_ok-add_flag.ensures
