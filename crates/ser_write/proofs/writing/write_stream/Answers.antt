use Rattle.std.proofs.Common.{◌≡◌, ◌∙◌}
use Rattle.std.proofs.Math.Logic.{∥∥₁_map}
use Rattle.ser_write.specs.Canonical.{canonical}
use Rattle.ser_write.proofs.Streams.{canonical_stream, canonical_alone}
use Rattle.ser_write.proofs.writing.write_stream.Goals as goal

pub returns-clause-canonical : goal.returns-clause-canonical
unfolding canonical
returns-clause-canonical c = rw (c.in_ok-out.ensures) at c.in_ok-write_items_onto.ensures.written

pub returns-clause-spelled : goal.returns-clause-spelled
unfolding canonical
returns-clause-spelled c =
    let written : c.write_items_onto.new.out ≡ canonical c.args.graph.now.nodes c.args.graph.now.items = rw (c.in_ok-out.ensures) at c.in_ok-write_items_onto.ensures.written in
    rw written (∥∥₁_map c.args.graph.now.numbered (λ g. canonical_stream c.args.graph.now.nodes c.args.graph.now.items g))

pub returns-clause-alone : goal.returns-clause-alone
unfolding canonical
returns-clause-alone c =
    let written : c.write_items_onto.new.out ≡ canonical c.args.graph.now.nodes c.args.graph.now.items = rw (c.in_ok-out.ensures) at c.in_ok-write_items_onto.ensures.written in
    λ others their_items graph same. canonical_alone c.args.graph.now.nodes others c.args.graph.now.items their_items c.args.graph.now.numbered graph (same ∙ written)
