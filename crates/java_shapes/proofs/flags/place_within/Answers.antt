use Rattle.std.proofs.Common.{◌∙◌, ap, sym, arith, Option}
use Rattle.ser_values.specs.declared.node.Node.{Node}
use Rattle.java_shapes.specs.Objects.{named_in, parent_in}
use Rattle.java_shapes.proofs.Placing.{place_found, place_above, place_nowhere, place_ends}
use Rattle.java_shapes.proofs.flags.place_within.Goals as goal

pub returns-in-Some : goal.returns-in-Some
returns-in-Some c =
    let n = c.in-Some.ensures ∙ ap (λ (o : Option Node). named_in c.args.name.now o) c.node_at-node.ensures in
    place_found c.args.nodes.now c.args.name.now c.loop-left.left c.loop-left.slot _ c.in-Some._desc.now c.loop-left.invariant (omega arith) n

pub returns-in_err-slot-in-None : goal.returns-in_err-slot-in-None
returns-in_err-slot-in-None c =
    let n = c.in-None.ensures ∙ ap (λ (o : Option Node). named_in c.args.name.now o) c.node_at-node.ensures in
    let u = sym c.in_err-slot-in-None.was ∙ (c.parent_of.ensures ∙ ap (λ (o : Option Node). parent_in o) c.node_at-node.ensures) in
    rw c.from_residual.ensures (place_nowhere c.args.nodes.now c.args.name.now c.loop-left.left c.loop-left.slot _ c.loop-left.invariant (omega arith) n u)

pub loop-left-preserved : goal.loop-left-preserved
loop-left-preserved c =
    let n = c.in-None.ensures ∙ ap (λ (o : Option Node). named_in c.args.name.now o) c.node_at-node.ensures in
    let u = sym c.in_ok-slot-in-None.was ∙ (c.parent_of.ensures ∙ ap (λ (o : Option Node). parent_in o) c.node_at-node.ensures) in
    place_above c.args.nodes.now c.args.name.now c.loop-left.left c.loop-left.slot c.in_ok-slot-in-None.slot _ c.loop-left.invariant (omega arith) n u

pub returns : goal.returns
returns c = place_ends c.args.nodes.now c.args.name.now c.loop-left.left c.loop-left.slot _ c.loop-left.invariant (omega arith)
