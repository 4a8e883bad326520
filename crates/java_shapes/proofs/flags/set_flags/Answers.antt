use Rattle.std.proofs.Common.{◌∙◌, ap, sym, arith, List, option_map}
use Rattle.ser_values.specs.declared.graph.Graph.{Graph}
use Rattle.ser_values.specs.declared.node.Node.{Node}
use Rattle.java_shapes.proofs.Flagged.{set_step, set_stops, set_ends}
use Rattle.java_shapes.proofs.flags.set_flags.Goals as goal

abbrev nodes_of : Graph → List Node
nodes_of g = g.nodes

pub returns-in_err-graph-clause-nodes : goal.returns-in_err-graph-clause-nodes
returns-in_err-graph-clause-nodes c =
    let none = sym c.with_note_byte.ensures.nodes ∙ ap (option_map nodes_of) c.in_err-graph.was in
    rw c.from_residual.ensures (sym (set_stops c.loop-place.graph.nodes c.args.places.now c.loop-place.place-index _ _ c.loop-place-test.true none c.loop-place.invariant.nodes))

pub loop-place-preserved : goal.loop-place-preserved
loop-place-preserved c =
    let written = sym c.with_note_byte.ensures.nodes ∙ ap (option_map nodes_of) c.in_ok-graph.was in
    record {
      nodes = set_step c.loop-place.graph.nodes c.in_ok-graph.graph.nodes c.args.places.now c.loop-place.place-index _ _ c.loop-place-test.true written c.loop-place.invariant.nodes;
      items = c.in_ok-graph.ensures.items ∙ c.loop-place.invariant.items;
    }

pub returns-clause-nodes : goal.returns-clause-nodes
returns-clause-nodes c = set_ends c.loop-place.graph.nodes c.args.places.now c.loop-place.place-index _ (omega (arith, c.loop-place-test.false)) c.loop-place.invariant.nodes
