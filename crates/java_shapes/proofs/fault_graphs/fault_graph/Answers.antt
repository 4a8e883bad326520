use Rattle.std.proofs.Common.{◌≡◌, ◌<◌, ◌^◌, arith, true, nat_lt, length}
use Rattle.std.proofs.lemmas.Bool.Decides.{nat_tests}
use Rattle.mod_utf.specs.Utf.{utf}
use Rattle.ser_values.specs.Ranges.{TextFits}
use Rattle.java_shapes.proofs.FaultGraph.{is_graph, fault_at}
use Rattle.java_shapes.proofs.FaultView.{fault_viewed}
use Rattle.java_shapes.proofs.fault_graphs.fault_graph.Goals as goal

pub from_parts-requires : goal.from_parts-requires
from_parts-requires c =
    let message = c.args.message.now in
    let below : length (utf message) < 2 ^ 63 = omega (arith, c.encoded_len.ensures.value, c.if-encoded_len.false) in
    let short : nat_lt (length (utf message)) (2 ^ 63) ≡ true = grind (arith, nat_tests) in
    let fits : TextFits message = rw c.as_slice.ensures at c.look.ensures in
    let graph = is_graph message short fits in
    rw (c.in_ok-nodes.ensures, c.in_ok-items.ensures) (∣ graph ∣₁)

pub returns-clause-viewed : goal.returns-clause-viewed
returns-clause-viewed c = rw (c.from_parts.ensures.nodes, c.in_ok-nodes.ensures) (fault_viewed _ c.args.message.now _ (fault_at c.args.message.now))
