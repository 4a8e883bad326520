-- Whether a reference of a graph was made for a result, node by node.
use Rattle.std.proofs.Common.{◌≡◌, ℕ, ◌+◌, List, Bool, true, false, ◌||◌, refl, ap, sym, ◌∙◌, add-one}
use Rattle.std.specs.List.{list_any}
use Rattle.std.proofs.lemmas.List.Folds.{list_any-append}
use Rattle.class_desc.specs.declared.slot.Slot.TheVariants as slots
use Rattle.ser_values.specs.declared.node.Node.{Node}
use Rattle.java_shapes.specs.LiveRefs.{live_ref_at}
use Rattle.java_shapes.specs.LocalRefs.{as_list, refs_below}
use Rattle.client_talk.specs.Contents.{is_for_result}

pub flagged_none : (nodes : List Node) → false ≡ list_any is_for_result (refs_below nodes 0)
unfolding refs_below
flagged_none nodes = refl

pub true_or : (b here : Bool) → b ≡ true → b ≡ (b || here)
true_or b here is = is ∙ ap (λ x. x || here) (sym is)

pub flagged_more : (nodes : List Node) (n : ℕ) (before here after : Bool) → before ≡ list_any is_for_result (refs_below nodes n) → here ≡ list_any is_for_result (as_list (live_ref_at nodes (slots.Node n)))
    → after ≡ (before || here) → after ≡ list_any is_for_result (refs_below nodes (n + 1))
unfolding refs_below
flagged_more nodes n before here after was is joined = rw (add-one) (
    joined ∙ ap (λ b. b || here) was ∙ ap (λ b. list_any is_for_result (refs_below nodes n) || b) is
    ∙ sym (list_any-append is_for_result (refs_below nodes n) (as_list (live_ref_at nodes (slots.Node n)))))
