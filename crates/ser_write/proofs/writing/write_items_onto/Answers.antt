use Rattle.std.proofs.Math.Logic.{∥∥₁_map}
use Rattle.ser_write.specs.Canonical.{contents}
use Rattle.ser_write.proofs.Streams.{contents_spelled}
use Rattle.ser_write.proofs.writing.write_items_onto.Goals as goal

pub returns-in-Ok-clause-spelled : goal.returns-in-Ok-clause-spelled
returns-in-Ok-clause-spelled c = λ rest. ∥∥₁_map c.args.graph.now.numbered (λ g. contents_spelled c.args.graph.now.nodes c.args.graph.now.items g rest)

pub returns-in-Ok-clause-written : goal.returns-in-Ok-clause-written
unfolding contents
returns-in-Ok-clause-written c =
    let written = rw (c.as_slice-nodes.ensures, c.as_slice-items.ensures, c.nodes.ensures, c.items.ensures) at c.in-Ok.ensures in
    written.0
