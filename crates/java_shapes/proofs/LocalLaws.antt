-- The objects of local references, one node further.
use Rattle.std.proofs.Common.{◌≡◌, ◌∙◌, ℕ, ℤ, Bool, true, false, List, [], ◌∷◌, ◌++◌, map, filter, fold, Option, Some, None, refl, ap, sym, add-one, append-nil, ◌+◌}
use Rattle.std.proofs.lemmas.List.{map-append}
use Rattle.std.proofs.lemmas.List.Elements.{filter-append}
use Rattle.std.proofs.lemmas.List.Sums.{fold-append}
use Rattle.class_desc.specs.declared.slot.Slot.TheVariants as slots
use Rattle.object_ids.specs.declared.ids.ObjId.{ObjId}
use Rattle.ser_values.specs.declared.node.Node.{Node}
use Rattle.java_shapes.specs.declared.ref_views.LiveRef.{LiveRef}
use Rattle.java_shapes.specs.LiveRefs.{live_ref_at}
use Rattle.java_shapes.specs.LocalRefs.{as_list, refs_below, add_once, is_local, local_among, add_if, with_local}

one_more : (ids : List ObjId) (host : List ℕ) (port : ℤ) (r : LiveRef) (b : Bool) → is_local host port r ≡ b → add_if b ids r.id ≡ fold add_once ids (map (λ (x : LiveRef). x.id) (filter (is_local host port) (r ∷ [])))
one_more ids host port r true e = rw e refl
one_more ids host port r false e = rw e refl

split : (host : List ℕ) (port : ℤ) (xs ys : List LiveRef) → local_among host port (xs ++ ys) ≡ fold add_once (local_among host port xs) (map (λ (x : LiveRef). x.id) (filter (is_local host port) ys))
split host port xs ys =
    ap (λ (l : List LiveRef). fold add_once [] (map (λ (x : LiveRef). x.id) l)) (filter-append (is_local host port) xs ys)
    ∙ (ap (λ (l : List ObjId). fold add_once [] l) (map-append (λ (x : LiveRef). x.id) (filter (is_local host port) xs) (filter (is_local host port) ys))
    ∙ fold-append add_once [] (map (λ (x : LiveRef). x.id) (filter (is_local host port) xs)) (map (λ (x : LiveRef). x.id) (filter (is_local host port) ys)))

more : (host : List ℕ) (port : ℤ) (xs : List LiveRef) (o : Option LiveRef) → with_local (local_among host port xs) host port o ≡ local_among host port (xs ++ as_list o)
more host port xs None = rw (append-nil xs) refl
more host port xs (Some r) = one_more (local_among host port xs) host port r (is_local host port r) refl ∙ sym (split host port xs (r ∷ []))

pub local_step : (nodes seen : List Node) (host : List ℕ) (port : ℤ) (n : ℕ) (ids more_ids : List ObjId) → seen ≡ nodes → ids ≡ local_among host port (refs_below nodes n) → more_ids ≡ with_local ids host port (live_ref_at seen (slots.Node n))
    → more_ids ≡ local_among host port (refs_below nodes (n + 1))
unfolding refs_below
local_step nodes seen host port n ids more_ids same before after = rw (add-one) (
    after ∙ (ap (λ (l : List Node). with_local ids host port (live_ref_at l (slots.Node n))) same ∙ (ap (λ (l : List ObjId). with_local l host port (live_ref_at nodes (slots.Node n))) before ∙ more host port (refs_below nodes n) (live_ref_at nodes (slots.Node n)))))

pub local_none : (nodes : List Node) (host : List ℕ) (port : ℤ) → local_among host port (refs_below nodes 0) ≡ []
unfolding refs_below
local_none nodes host port = refl
