use Rattle.mod_utf.specs.Utf.{utf}
use Rattle.std.proofs.Common.{◌≤◌, length, arith, ◌≡◌, ◌∙◌, ◌<◌, ◌^◌, false, ap}
use Rattle.std.specs.Prelude.{All}
use Rattle.class_desc.specs.TypeText.{is_nil}
use Rattle.ser_values.specs.Ranges.{TextFits}
use Rattle.java_shapes.proofs.RefGraph.{is_graph, note_filled, proxy_is}
use Rattle.java_shapes.proofs.ProxyView.{proxy_seen}
use Rattle.java_shapes.proofs.ref_graphs.ref_graph.Goals as goal

pub from_parts-requires : goal.from_parts-requires
from_parts-requires c =
    let interface = c.args.interface.now in
    let note = c.in_ok-note.note in
    let short : length (utf interface) ≤ 65535 = omega (arith, c.encoded_len.ensures.value, c.if-encoded_len-gt65535.false) in
    let filled : is_nil note ≡ false = ap is_nil c.in_ok-note.ensures.note ∙ note_filled c.args.reference.now in
    let fits : TextFits interface = rw c.as_slice.ensures at c.look.ensures in
    let bytes : All (λ x. x < 2 ^ 8) note = rw c.as_slice-2.ensures at c.look_at_bytes.ensures in
    rw (c.in_ok-nodes.ensures, c.in_ok-items.ensures) (∣ is_graph interface note short filled fits bytes ∣₁)

pub returns-clause-viewed : goal.returns-clause-viewed
returns-clause-viewed c = rw (c.from_parts.ensures.nodes, c.in_ok-nodes.ensures)
    (proxy_seen _ c.args.interface.now c.in_ok-note.note _ (proxy_is c.args.interface.now c.in_ok-note.note) ∙ c.in_ok-note.ensures.viewed)
