use Rattle.std.proofs.Common.{◌∙◌, ap, sym, arith, rules, Option, length}
use Rattle.std.proofs.lemmas.Option.{slice_get_read}
use Rattle.ser_values.specs.declared.node.Node.{Node}
use Rattle.java_shapes.specs.Objects.{named_in, parent_in}
use Rattle.java_shapes.proofs.Search.{held_found, held_above, held_nowhere, held_ends}
use Rattle.java_shapes.proofs.class_part.held_by.Goals as goal

pub returns-in-Some : goal.returns-in-Some
returns-in-Some c =
    let n = c.in-Some.ensures ∙ ap (λ (o : Option Node). named_in c.args.name.now o) c.node_at-node.ensures in
    held_found c.args.nodes.now c.args.name.now c.args.parts.now c.loop-left.left c.loop-left.slot _ c.in-Some.desc.now c.index-parts-left.result c.loop-left.invariant.rest (omega arith) n
    (slice_get_read c.args.parts.now (length c.args.parts.now) _ c.index-parts-left.result (search rules) (omega arith) c.index-parts-left.is)

pub returns-in_err-slot-in-None : goal.returns-in_err-slot-in-None
returns-in_err-slot-in-None c =
    let n = c.in-None.ensures ∙ ap (λ (o : Option Node). named_in c.args.name.now o) c.node_at-node.ensures in
    let u = sym c.in_err-slot-in-None.was ∙ (c.parent_of.ensures ∙ ap (λ (o : Option Node). parent_in o) c.node_at-node.ensures) in
    rw c.from_residual.ensures (held_nowhere c.args.nodes.now c.args.name.now c.args.parts.now c.loop-left.left c.loop-left.slot _ c.loop-left.invariant.rest (omega arith) n u)

pub loop-left-preserved : goal.loop-left-preserved
loop-left-preserved c =
    let n = c.in-None.ensures ∙ ap (λ (o : Option Node). named_in c.args.name.now o) c.node_at-node.ensures in
    let u = sym c.in_ok-slot-in-None.was ∙ (c.parent_of.ensures ∙ ap (λ (o : Option Node). parent_in o) c.node_at-node.ensures) in
    record { within = omega arith; rest = held_above c.args.nodes.now c.args.name.now c.args.parts.now c.loop-left.left c.loop-left.slot c.in_ok-slot-in-None.slot _ c.loop-left.invariant.rest (omega arith) (omega arith) n u }

pub returns : goal.returns
returns c = held_ends c.args.nodes.now c.args.name.now c.args.parts.now c.loop-left.left c.loop-left.slot _ c.loop-left.invariant.rest (omega arith)
