use Rattle.std.proofs.Common.{◌≡◌, ◌∙◌, ◌≤◌, length, arith, refl, [], ◌∷◌}
use Rattle.std.specs.Prelude.{All}
use Rattle.std.proofs.Math.Logic.{∥∥₁_map}
use Rattle.class_desc.specs.declared.slot.Item.TheVariants as contents
use Rattle.ser_values.specs.Finished.{IsGraphOf}
use Rattle.std.proofs.lemmas.List.Elements.{All-nil, All-cons}
use Rattle.ser_values.specs.Ranges.{ItemFits, ItemsFit, InRange}
use Rattle.ser_values.proofs.Reached.{below_order, few_in_order, graph_by, is_graph, few_nodes, in_range}
use Rattle.ser_values.proofs.graph.Graph.part.Goals as goal

pub places-requires-clause-below : goal.places-requires-clause-below
places-requires-clause-below c = rw c.deref.ensures.value (below_order c.as_slice-nodes.result.now c.as_slice.result.now 200 c.in_ok-order.order.items c.in_ok-order.ensures.ok)

pub places-requires-clause-few : goal.places-requires-clause-few
places-requires-clause-few c =
    let most = few_in_order c.as_slice-nodes.result.now c.as_slice.result.now 200 c.in_ok-order.order.items c.in_ok-order.ensures.ok in
    let small : length c.as_slice-nodes.result.now ≤ 65536 = rw c.as_slice-nodes.ensures (few_nodes _ _ c.args.self.now.numbered) in
    rw c.deref.ensures.value (omega arith)

pub invariant_of-result : goal.invariant_of-result
invariant_of-result c =
    let small : length c.as_slice-nodes.result.now ≤ 65536 = rw c.as_slice-nodes.ensures (few_nodes _ _ c.args.self.now.numbered) in
    let graph = graph_by c.as_slice-nodes.result.now _ c.from_vec.result c.as_slice.result.now c.renumber_all.new.list c.in_ok-order.order.items _ _ c.in_ok-places.places.items _ _
    c.in_ok-order.ensures.ok c.in_ok-places.ensures c.deref.ensures.value c.deref-2.ensures.value c.deref-3.ensures.value c.deref-4.ensures.value refl
    (c.from_vec.ensures ∙ c.in_ok-copies.ensures) (rw c.as_slice.ensures c.renumber_all.ensures) in
    let items_are : c.as_slice.result.now ≡ contents.Ref c.args.slot ∷ [] = c.as_slice.ensures ∙ rw c.new-items.ensures at c.in_ok-push.ensures.ok in
    let fit : ItemsFit c.as_slice.result.now = rw items_are (All-cons ItemFits (contents.Ref c.args.slot) [] tt (All-nil ItemFits)) in
    record {
      numbered = ∥∥₁_map c.args.self.now.numbered (λ whole. (
          let ranged : All InRange c.as_slice-nodes.result.now = rw c.as_slice-nodes.ensures (in_range c.args.self.now.nodes c.args.self.now.items whole) in
          is_graph c.as_slice-nodes.result.now c.as_slice.result.now c.from_vec.result c.renumber_all.new.list small ranged fit graph));
    }

pub returns-clause-ok : goal.returns-clause-ok
returns-clause-ok c =
    let graph = graph_by c.as_slice-nodes.result.now _ c.from_vec.result c.as_slice.result.now c.renumber_all.new.list c.in_ok-order.order.items _ _ c.in_ok-places.places.items _ _
    c.in_ok-order.ensures.ok c.in_ok-places.ensures c.deref.ensures.value c.deref-2.ensures.value c.deref-3.ensures.value c.deref-4.ensures.value refl
    (c.from_vec.ensures ∙ c.in_ok-copies.ensures) (rw c.as_slice.ensures c.renumber_all.ensures) in
    let items_are : c.as_slice.result.now ≡ contents.Ref c.args.slot ∷ [] = c.as_slice.ensures ∙ rw c.new-items.ensures at c.in_ok-push.ensures.ok in
    let named : IsGraphOf c.args.self.now.nodes (contents.Ref c.args.slot ∷ []) c.from_vec.result c.renumber_all.new.list = rw (c.as_slice-nodes.ensures, items_are) at graph in
    named
