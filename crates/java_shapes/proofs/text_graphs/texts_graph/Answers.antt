use Rattle.std.proofs.Common.{◌≤◌, length}
use Rattle.std.specs.Prelude.{All}
use Rattle.java_shapes.specs.TextsGraph.{CanBeText}
use Rattle.java_shapes.proofs.Built.{texts_seen}
use Rattle.java_shapes.proofs.TextsGraph.{is_graph, texts_are}
use Rattle.java_shapes.proofs.text_graphs.texts_graph.Goals as goal

pub from_parts-requires : goal.from_parts-requires
from_parts-requires c =
    let names = c.args.names.now in
    let few : length names ≤ 65534 = rw c.as_slice-names.ensures at c.if-names.false in
    let can : All CanBeText names = rw c.as_slice-names.ensures at (c.can_be_texts.ensures c.if-not-can_be_texts.false) in
    rw (c.in_ok-nodes.ensures, c.in_ok-items.ensures, c.as_slice-names.ensures) (∣ is_graph names few can ∣₁)

pub returns-clause-viewed : goal.returns-clause-viewed
returns-clause-viewed c = rw (c.from_parts.ensures.nodes, c.in_ok-nodes.ensures, c.as_slice-names.ensures) (texts_seen _ c.args.names.now _ (texts_are c.args.names.now))
