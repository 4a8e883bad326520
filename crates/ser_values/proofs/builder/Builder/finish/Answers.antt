use Rattle.std.proofs.Common.{◌≡◌, ◌∙◌, ◌≤◌, sym, length, arith}
use Rattle.std.specs.Prelude.{All}
use Rattle.ser_values.specs.Finished.{IsGraphOf}
use Rattle.ser_values.specs.Ranges.{ItemsFit, InRange}
use Rattle.ser_values.proofs.Reached.{below_order, few_in_order, once_in_order, graph_by, is_graph}
use Rattle.ser_values.proofs.builder.Builder.finish.Goals as goal

pub places-requires-clause-below : goal.places-requires-clause-below
places-requires-clause-below c = rw c.deref-2.ensures.value (λ j t.
    let lt = below_order c.deref.result.now c.as_slice.result.now 200 c.in_ok-order.order.items c.in_ok-order.ensures.ok j t in
    omega (arith, c.deref.ensures.len, c.len.ensures))

pub places-requires-clause-few : goal.places-requires-clause-few
places-requires-clause-few c =
    let most = few_in_order c.deref.result.now c.as_slice.result.now 200 c.in_ok-order.order.items c.in_ok-order.ensures.ok in
    let small : length c.deref.result.now ≤ 65536 = rw c.deref.ensures.value c.self.invariant.0 in
    rw c.deref-2.ensures.value (omega arith)

pub take_nodes-requires : goal.take_nodes-requires
take_nodes-requires c = rw c.deref-3.ensures.value (once_in_order c.deref.result.now c.as_slice.result.now 200 c.in_ok-order.order.items c.in_ok-order.ensures.ok)

pub from_parts-requires : goal.from_parts-requires
from_parts-requires c =
    let small : length c.deref.result.now ≤ 65536 = rw c.deref.ensures.value c.self.invariant.0 in
    let graph = graph_by c.deref.result.now _ c.from_vec.result c.as_slice.result.now c.renumber_all.new.list c.in_ok-order.order.items _ _ c.in_ok-places.places.items _ _
    c.in_ok-order.ensures.ok c.in_ok-places.ensures c.deref-2.ensures.value c.deref-3.ensures.value c.deref-4.ensures.value c.deref-5.ensures.value (c.deref_mut.ensures.value ∙ sym c.deref.ensures.value)
    (c.from_vec.ensures ∙ c.in_ok-taken.ensures) (rw c.as_slice.ensures c.renumber_all.ensures) in
    let ranged : All InRange c.deref.result.now = rw c.deref.ensures.value c.self.invariant.1 in
    let fit : ItemsFit c.as_slice.result.now = rw c.as_slice.ensures c.look.ensures in
    ∣ is_graph c.deref.result.now c.as_slice.result.now c.from_vec.result c.renumber_all.new.list small ranged fit graph ∣₁

pub returns-clause-ok : goal.returns-clause-ok
returns-clause-ok c =
    let graph = graph_by c.deref.result.now _ c.from_vec.result c.as_slice.result.now c.renumber_all.new.list c.in_ok-order.order.items _ _ c.in_ok-places.places.items _ _
    c.in_ok-order.ensures.ok c.in_ok-places.ensures c.deref-2.ensures.value c.deref-3.ensures.value c.deref-4.ensures.value c.deref-5.ensures.value (c.deref_mut.ensures.value ∙ sym c.deref.ensures.value)
    (c.from_vec.ensures ∙ c.in_ok-taken.ensures) (rw c.as_slice.ensures c.renumber_all.ensures) in
    let loose_is : c.deref.result.now ≡ c.args.self = c.deref.ensures.value ∙ c.self.view_is in
    let named : IsGraphOf c.args.self c.args.items c.from_vec.result c.renumber_all.new.list = rw (loose_is, c.as_slice.ensures) at graph in
    rw (c.from_parts.ensures.nodes, c.from_parts.ensures.items) named
