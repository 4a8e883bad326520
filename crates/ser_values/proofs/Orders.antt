-- A walk ends with the order of the visits, where there is one.
use Rattle.std.proofs.Common.{◌≡◌, ℕ, zero, suc, ◌<◌, Bool, true, false, cond, eqb, List, [], ◌∷◌, ◌++◌, Option, Some, None, slice_get, refl, sym, ap, ◌∙◌, arith, not, ◌&&◌}
use Rattle.std.proofs.Math.Dec.{eqb-suc-zero}
use Rattle.std.proofs.lemmas.Bool.{and_parts}
use Rattle.class_desc.specs.declared.slot.Slot.TheVariants as slots
use Rattle.ser_values.specs.declared.node.SlotPlace.{SlotPlace}
use Rattle.ser_values.specs.declared.node.Node.{Node}
use Rattle.ser_values.specs.Node.{has, Want, before, after, is_desc, admits, admits_null, takes, inside}
use Rattle.ser_values.specs.Shape.{is_shaped}
use Rattle.ser_values.specs.Visits.{Visiting, VisitAll, Visit, a_null, again, fresh, never, Visits}
use Rattle.ser_values.specs.Walk.{Walk, tick, stop, ends, ◌>>=◌, end_of, Walking, all, leave, number_item, number, is_new, check, visit_item, visit_slot, nowhere, visit_at}

then_some : (w : Walk) (f : List ℕ → Walk) (y : List ℕ) → end_of (w >>= f) ≡ Some y → (o : List ℕ) × (end_of w ≡ Some o) × (end_of (f o) ≡ Some y)
unfolding end_of
then_some stop f y e = absurd cc
then_some (ends o) f y e = (o, refl, e)
then_some (tick w) f y e = then_some w f y e

some_then : (w : Walk) (f : List ℕ → Walk) (o : List ℕ) → end_of w ≡ Some o → end_of (w >>= f) ≡ end_of (f o)
unfolding end_of
some_then stop f o e = absurd cc
some_then (ends p) f o e = let same : p ≡ o = cc in rw same refl
some_then (tick w) f o e = some_then w f o e

checks : (b : Bool) (o y : List ℕ) → end_of (check b o) ≡ Some y → (b ≡ true) × (y ≡ o)
unfolding end_of
checks true o y e = (refl, cc)
checks false o y e = absurd cc

leaves : (b : Bool) (o : List ℕ) → end_of (leave b o) ≡ Some o
unfolding end_of
leaves true o = refl
leaves false o = refl

none_some : {A : Type 0} (y : List ℕ) → end_of stop ≡ Some y → A
unfolding end_of
none_some y e = absurd cc

if_stop : (b : Bool) (w : Walk) (y : List ℕ) → end_of (cond b stop w) ≡ Some y → (b ≡ false) × (end_of w ≡ Some y)
if_stop true w y e = none_some y e
if_stop false w y e = (refl, e)

if_not_stop : (b : Bool) (w : Walk) (y : List ℕ) → end_of (cond b w stop) ≡ Some y → (b ≡ true) × (end_of w ≡ Some y)
if_not_stop true w y e = (refl, e)
if_not_stop false w y e = none_some y e

new_is : (nodes : List Node) (left : ℕ) (place : SlotPlace) (i : Node) → is_new nodes left place i ≡ true → (0 < left) × (admits place i ≡ true) × (is_shaped nodes i ≡ true)
new_is nodes zero place i e = absurd cc
new_is nodes (suc d) place i e =
    let p = and_parts (not (eqb (suc d) 0)) (admits place i && is_shaped nodes i) e in
    let q = and_parts (admits place i) (is_shaped nodes i) p.1 in
    (omega arith, q.0, q.1)

is_new_of : (nodes : List Node) (left : ℕ) (place : SlotPlace) (i : Node) → 0 < left → admits place i ≡ true → is_shaped nodes i ≡ true → is_new nodes left place i ≡ true
is_new_of nodes zero place i lt a s = absurd (omega arith)
is_new_of nodes (suc d) place i lt a s = rw (eqb-suc-zero d, a, s) refl

end_tick_is : (w : Walk) → end_of w ≡ end_of (tick w)
unfolding end_of
end_tick_is w = refl

-- ---- a walk that ended visited

abbrev pub IsSound : Walking → Visiting → Type 0
IsSound inner Inner = (unread : List ℕ) (w : Want) (order y : List ℕ) → end_of (inner unread w order) ≡ Some y → Inner unread w order y

pub all_sound : (inner : Walking) (Inner : Visiting) → IsSound inner Inner → (unread : List ℕ) (ws : List Want) (order y : List ℕ) → end_of (all (inner unread) ws order) ≡ Some y → VisitAll (Inner unread) ws order y
unfolding all end_of
all_sound inner Inner sound unread [] order y e = cc
all_sound inner Inner sound unread (w ∷ ws) order y e =
    let p = then_some (inner unread w order) (all (inner unread) ws) y e in
    (p.0, sound unread w order p.0 p.1, all_sound inner Inner sound unread ws p.0 y p.2)

number_sound : (nodes : List Node) (inner : Walking) (Inner : Visiting) → IsSound inner Inner → (unread : List ℕ) (j : ℕ) (i : Node) (order y : List ℕ) → end_of (number_item inner unread j order (Some i)) ≡ Some y
    → (has order j ≡ false) × VisitAll (Inner (inside unread j i)) (after i) (order ++ j ∷ []) y
unfolding end_of
number_sound nodes inner Inner sound unread j i order y e =
    let p = if_stop (has order j) (tick (all (inner (inside unread j i)) (after i) (order ++ j ∷ []) >>= leave (is_desc i))) y e in
    let q = then_some (all (inner (inside unread j i)) (after i) (order ++ j ∷ [])) (leave (is_desc i)) y p.1 in
    let same : q.0 ≡ y = let s = sym (leaves (is_desc i) q.0) ∙ q.2 in cc in
    (p.0, all_sound inner Inner sound (inside unread j i) (after i) (order ++ j ∷ []) y (rw same at q.1))

slot_sound : (nodes : List Node) (left : ℕ) (inner : Walking) (Inner : Visiting) → IsSound inner Inner → (unread : List ℕ) (w : Want) (order y : List ℕ) → end_of (visit_slot nodes left inner unread w.0 w.1 order) ≡ Some y → Visit nodes left Inner unread w order y
slot_sound nodes left inner Inner sound unread (place, slots.Null) order y e = let p = checks (admits_null place) order y e in a_null refl p.0 p.1
slot_sound nodes left inner Inner sound unread (place, slots.Node j) order y e = go (slice_get nodes j) refl e
  where
    go : (o : Option Node) → slice_get nodes j ≡ o → end_of (visit_item nodes left inner unread place j order o) ≡ Some y → Visit nodes left Inner unread (place, slots.Node j) order y
    go None is e = none_some y e
    go (Some i) is e = seen (has order j) refl e
      where
        seen : (b : Bool) → has order j ≡ b → end_of (cond b (check (takes place (has unread j) i) order) (cond (is_new nodes left place i) (tick (all (inner unread) (before i) order >>= number nodes inner unread j)) stop)) ≡ Some y → Visit nodes left Inner unread (place, slots.Node j) order y
        seen true h e = let p = checks (takes place (has unread j) i) order y e in again j i refl is h p.0 p.1
        seen false h e =
            let p = if_not_stop (is_new nodes left place i) (tick (all (inner unread) (before i) order >>= number nodes inner unread j)) y e in
            let n = new_is nodes left place i p.0 in
            let q = then_some (tick (all (inner unread) (before i) order)) (number nodes inner unread j) y p.1 in
            let numbered : end_of (number_item inner unread j q.0 (Some i)) ≡ Some y = rw is at q.2 in
            let r = number_sound nodes inner Inner sound unread j i q.0 y numbered in
            fresh j i q.0 refl is h n.0 n.1 n.2 (tick_sound q.0 q.1) r.0 r.1
          where
            tick_sound : (o : List ℕ) → end_of (tick (all (inner unread) (before i) order)) ≡ Some o → VisitAll (Inner unread) (before i) order o
            tick_sound o e = all_sound inner Inner sound unread (before i) order o (end_tick_is (all (inner unread) (before i) order) ∙ e)

pub sound : (nodes : List Node) (d : ℕ) → IsSound (visit_at nodes d) (Visits nodes d)
unfolding visit_at Visits
sound nodes zero unread w order y e = slot_sound nodes zero nowhere never (λ unread w order y e. none_some y e) unread w order y e
sound nodes (suc d) unread w order y e = slot_sound nodes (suc d) (visit_at nodes d) (Visits nodes d) (sound nodes d) unread w order y e

-- ---- and one that visits ends

abbrev pub IsComplete : Walking → Visiting → Type 0
IsComplete inner Inner = (unread : List ℕ) (w : Want) (order y : List ℕ) → Inner unread w order y → end_of (inner unread w order) ≡ Some y

pub all_complete : (inner : Walking) (Inner : Visiting) → IsComplete inner Inner → (unread : List ℕ) (ws : List Want) (order y : List ℕ) → VisitAll (Inner unread) ws order y → end_of (all (inner unread) ws order) ≡ Some y
unfolding all end_of
all_complete inner Inner complete unread [] order y h = ap (λ (o : List ℕ). Some o) (sym h)
all_complete inner Inner complete unread (w ∷ ws) order y h =
    some_then (inner unread w order) (all (inner unread) ws) h.0 (complete unread w order h.0 h.1) ∙ all_complete inner Inner complete unread ws h.0 y h.2

slot_complete : (nodes : List Node) (left : ℕ) (inner : Walking) (Inner : Visiting) → IsComplete inner Inner → (unread : List ℕ) (w : Want) (order y : List ℕ) → Visit nodes left Inner unread w order y → end_of (visit_slot nodes left inner unread w.0 w.1 order) ≡ Some y
unfolding end_of
slot_complete nodes left inner Inner complete unread w order y (a_null null ok same) = rw null (rw ok (ap (λ (o : List ℕ). Some o) (sym same)))
slot_complete nodes left inner Inner complete unread w order y (again j i what is h ok same) = rw what (rw is (rw h (rw ok (ap (λ (o : List ℕ). Some o) (sym same)))))
slot_complete nodes left inner Inner complete unread w order y (fresh j i middle what is h lt admitted shaped befores h2 afters) =
    let new = is_new_of nodes left w.0 i lt admitted shaped in
    let a = all_complete inner Inner complete unread (before i) order middle befores in
    let b = all_complete inner Inner complete (inside unread j i) (after i) (middle ++ j ∷ []) y afters in
    let n : end_of (number nodes inner unread j middle) ≡ Some y = rw (is, h2) (some_then (all (inner (inside unread j i)) (after i) (middle ++ j ∷ [])) (leave (is_desc i)) y b ∙ leaves (is_desc i) y) in
    let s : end_of (all (inner unread) (before i) order >>= number nodes inner unread j) ≡ Some y = some_then (all (inner unread) (before i) order) (number nodes inner unread j) middle a ∙ n in
    rw what (rw is (rw (h, new) s))

pub complete : (nodes : List Node) (d : ℕ) → IsComplete (visit_at nodes d) (Visits nodes d)
unfolding visit_at Visits
complete nodes zero unread w order y h = slot_complete nodes zero nowhere never (λ unread w order y h. absurd h) unread w order y h
complete nodes (suc d) unread w order y h = slot_complete nodes (suc d) (visit_at nodes d) (Visits nodes d) (complete nodes d) unread w order y h
