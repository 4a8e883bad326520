use Rattle.std.proofs.Common.{◌≡◌, ◌≤◌, ◌<◌, ◌^◌, arith, refl, rules, true, nat_lt, length}
use Rattle.std.specs.Prelude.{All, FitsSigned}
use Rattle.std.specs.Int.{w16, w32, w64}
use Rattle.std.proofs.lemmas.Bool.Decides.{nat_tests}
use Rattle.std.proofs.lemmas.Int.{to_z-of_z}
use Rattle.object_ids.specs.declared.limits.TheConstants.{MAX_ADDRESS_BYTES}
use Rattle.object_ids.specs.Bytes.{FitsUid}
use Rattle.java_shapes.proofs.LeaseGraph.{is_graph, lease_is}
use Rattle.java_shapes.proofs.Built.{short_enough, lease_seen}
use Rattle.java_shapes.proofs.lease_graphs.lease_graph.Goals as goal

pub from_parts-requires : goal.from_parts-requires
from_parts-requires c =
    let client = c.args.vmid.now in
    let bytes : All (λ x. x < 2 ^ 8) client.addr = rw (c.as_slice.ensures, c.addr.ensures.value) at c.look_at_bytes.ensures in
    let short : length client.addr ≤ MAX_ADDRESS_BYTES = rw c.addr.ensures.value at c.addr.ensures.short in
    let few : nat_lt (length client.addr) (2 ^ 31) ≡ true = grind (arith, nat_tests) in
    let value : FitsSigned w64 c.args.value = search rules in
    let unique : FitsSigned w32 c.uid-uid.result.unique = search rules in
    let time : FitsSigned w64 c.uid-uid.result.time = search rules in
    let count : FitsSigned w16 c.uid-uid.result.count = search rules in
    let drawn : FitsUid c.uid-uid.result = record { unique = unique; time = time; count = count } in
    let uid : FitsUid client.uid = rw c.uid-uid.ensures at drawn in
    rw (c.in_ok-nodes.ensures, c.in_ok-items.ensures, to_z-of_z w64 c.args.value value) (∣ is_graph c.args.value client few value uid bytes ∣₁)

pub returns-clause-viewed : goal.returns-clause-viewed
returns-clause-viewed c =
    let client = c.args.vmid.now in
    let value : FitsSigned w64 c.args.value = search rules in
    rw (c.from_parts.ensures.nodes, c.in_ok-nodes.ensures, to_z-of_z w64 c.args.value value) (lease_seen _ c.args.value client _ (lease_is c.args.value client) (short_enough (length client.addr) MAX_ADDRESS_BYTES (rw c.addr.ensures.value at c.addr.ensures.short)))

pub returns-clause-nodes : goal.returns-clause-nodes
returns-clause-nodes c =
    let value : FitsSigned w64 c.args.value = search rules in
    rw (c.from_parts.ensures.nodes, c.in_ok-nodes.ensures, to_z-of_z w64 c.args.value value) refl
