use Rattle.std.proofs.Common.{arith}
use Rattle.std.proofs.Math.Logic.{∥∥₁_map}
use Rattle.ser_values.specs.Fronts.{put_block}
use Rattle.ser_values.proofs.FrontLaws.{with_graph}
use Rattle.ser_write.specs.Canonical.{contents}
use Rattle.ser_values.proofs.Ranged.{all_fit}
use Rattle.ser_write.proofs.Streams.{contents_full}
use Rattle.ser_write.proofs.writing.write_items_after.Goals as goal

pub returns-in-Ok-clause-spelled : goal.returns-in-Ok-clause-spelled
returns-in-Ok-clause-spelled c = ∥∥₁_map c.args.graph.now.numbered (λ g.
    contents_full c.args.graph.now.nodes (put_block c.args.front.now c.args.graph.now.items) (with_graph c.args.graph.now.nodes c.args.front.now c.args.graph.now.items (all_fit c.args.front.now (λ i. let fits = c.type_inv.front i in omega arith)) g))

pub returns-in-Ok-clause-written : goal.returns-in-Ok-clause-written
unfolding contents
returns-in-Ok-clause-written c =
    let written = rw (c.as_slice-nodes.ensures, c.as_slice-items.ensures, c.nodes.ensures, c.items.ensures) at c.in-Ok.ensures in
    written.0
