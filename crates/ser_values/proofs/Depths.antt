-- How deep visits go.
use Rattle.std.proofs.Common.{◌≡◌, ℕ, zero, suc, ◌+◌, ◌-◌, ◌<◌, ◌≤◌, true, false, List, [], ◌∷◌, ◌++◌, length, Some, slice_get, refl, ap, ◌∙◌, arith}
use Rattle.std.proofs.lemmas.List.{length-append}
use Rattle.class_desc.specs.declared.slot.Slot.TheVariants as slots
use Rattle.ser_values.specs.declared.node.Node.{Node}
use Rattle.ser_values.specs.Node.{has, Want, before, after, admits, inside}
use Rattle.ser_values.specs.Shape.{is_shaped}
use Rattle.ser_values.specs.Visits.{Visiting, VisitAll, Visit, a_null, again, fresh, never, Visits}
use Rattle.ser_values.proofs.Lists.{length_push}
use Rattle.ser_values.proofs.Added.{Adds, visits_add, all_adds}

abbrev Within : Visiting → Visiting → Type 0
Within A B = (unread : List ℕ) (w : Want) (order y : List ℕ) → A unread w order y → B unread w order y

pub all_more : (A B : Visiting) → Within A B → (unread : List ℕ) (ws : List Want) (order y : List ℕ) → VisitAll (A unread) ws order y → VisitAll (B unread) ws order y
all_more A B more unread [] order y h = h
all_more A B more unread (w ∷ ws) order y h = (h.0, more unread w order h.0 h.1, all_more A B more unread ws h.0 y h.2)

visit_more : (nodes : List Node) (left left2 : ℕ) (A B : Visiting) → left ≤ left2 → Within A B → Within (Visit nodes left A) (Visit nodes left2 B)
visit_more nodes left left2 A B le more unread w order y (a_null what ok same) = a_null what ok same
visit_more nodes left left2 A B le more unread w order y (again j i what is h ok same) = again j i what is h ok same
visit_more nodes left left2 A B le more unread w order y (fresh j i middle what is h lt admitted shaped befores new afters) =
    fresh j i middle what is h (omega arith) admitted shaped (all_more A B more unread (before i) order middle befores) new (all_more A B more (inside unread j i) (after i) (middle ++ j ∷ []) y afters)

pub deeper : (nodes : List Node) (d e : ℕ) → d ≤ e → Within (Visits nodes d) (Visits nodes e)
unfolding Visits
deeper nodes zero zero le unread w order y h = h
deeper nodes zero (suc e) le unread w order y h = visit_more nodes zero (suc e) never (Visits nodes e) (omega arith) (λ unread w order y h. absurd h) unread w order y h
deeper nodes (suc d) zero le unread w order y h = absurd (omega arith)
deeper nodes (suc d) (suc e) le unread w order y h = visit_more nodes (suc d) (suc e) (Visits nodes d) (Visits nodes e) le (deeper nodes d e (omega arith)) unread w order y h

adds_len : (nodes : List Node) (order y : List ℕ) → Adds nodes order y → length order ≤ length y
adds_len nodes order y p = let e : length y ≡ length order + length p.added = ap (λ (l : List ℕ). length l) p.grown ∙ length-append order p.added in omega arith

abbrev IsBounded : List Node → Visiting → Type 0
IsBounded nodes A = (unread : List ℕ) (w : Want) (order y : List ℕ) → A unread w order y → (m : ℕ) → length y - length order ≤ m → Visits nodes m unread w order y

pub all_bounded : (nodes : List Node) (d : ℕ) → IsBounded nodes (Visits nodes d) → (unread : List ℕ) (ws : List Want) (order y : List ℕ) → VisitAll (Visits nodes d unread) ws order y → (m : ℕ) → length y - length order ≤ m → VisitAll (Visits nodes m unread) ws order y
all_bounded nodes d bounded unread [] order y h m le = h
all_bounded nodes d bounded unread (w ∷ ws) order y h m le =
    let a : length order ≤ length h.0 = adds_len nodes order h.0 (visits_add nodes d unread w order h.0 h.1).0 in
    let b : length h.0 ≤ length y = adds_len nodes h.0 y (all_adds nodes (Visits nodes d) (visits_add nodes d) unread ws h.0 y h.2).0 in
    (h.0, bounded unread w order h.0 h.1 m (omega arith), all_bounded nodes d bounded unread ws h.0 y h.2 m (omega arith))

as_visits : (nodes : List Node) (m : ℕ) (unread : List ℕ) (w : Want) (order y : List ℕ) → ((left : ℕ) (Inner : Visiting) → Visit nodes left Inner unread w order y) → Visits nodes m unread w order y
unfolding Visits
as_visits nodes zero unread w order y f = f zero never
as_visits nodes (suc m) unread w order y f = f (suc m) (Visits nodes m)

step : (nodes : List Node) (m : ℕ) (unread : List ℕ) (w : Want) (order y : List ℕ) (j : ℕ) (i : Node) (middle : List ℕ) → w.1 ≡ slots.Node j → slice_get nodes j ≡ Some i → has order j ≡ false → 0 < m → admits w.0 i ≡ true → is_shaped nodes i ≡ true → has middle j ≡ false
    → ((k : ℕ) → suc k ≡ m → VisitAll (Visits nodes k unread) (before i) order middle) → ((k : ℕ) → suc k ≡ m → VisitAll (Visits nodes k (inside unread j i)) (after i) (middle ++ j ∷ []) y) → Visits nodes m unread w order y
unfolding Visits
step nodes zero unread w order y j i middle what is h room admitted shaped new f g = absurd (omega arith)
step nodes (suc k) unread w order y j i middle what is h room admitted shaped new f g = fresh j i middle what is h room admitted shaped (f k refl) new (g k refl)

visit_bounded : (nodes : List Node) (d left : ℕ) → IsBounded nodes (Visits nodes d) → IsBounded nodes (Visit nodes left (Visits nodes d))
unfolding Visits
visit_bounded nodes d left bounded unread w order y (a_null what ok same) m le = as_visits nodes m unread w order y (λ left Inner. a_null what ok same)
visit_bounded nodes d left bounded unread w order y (again j i what is h ok same) m le = as_visits nodes m unread w order y (λ left Inner. again j i what is h ok same)
visit_bounded nodes d left bounded unread w order y (fresh j i middle what is h lt admitted shaped befores new afters) m le =
    let a : length order ≤ length middle = adds_len nodes order middle (all_adds nodes (Visits nodes d) (visits_add nodes d) unread (before i) order middle befores).0 in
    let b : length (middle ++ j ∷ []) ≤ length y = adds_len nodes (middle ++ j ∷ []) y (all_adds nodes (Visits nodes d) (visits_add nodes d) (inside unread j i) (after i) (middle ++ j ∷ []) y afters).0 in
    let c : length (middle ++ j ∷ []) ≡ suc (length middle) = length_push middle j in
    let room : 0 < m = omega arith in
    step nodes m unread w order y j i middle what is h room admitted shaped new (λ k e. all_bounded nodes d bounded unread (before i) order middle befores k (omega arith)) (λ k e. all_bounded nodes d bounded (inside unread j i) (after i) (middle ++ j ∷ []) y afters k (omega arith))

pub bounded : (nodes : List Node) (d : ℕ) → IsBounded nodes (Visits nodes d)
unfolding Visits
bounded nodes zero unread w order y (a_null what ok same) m le = as_visits nodes m unread w order y (λ left Inner. a_null what ok same)
bounded nodes zero unread w order y (again j i what is h ok same) m le = as_visits nodes m unread w order y (λ left Inner. again j i what is h ok same)
bounded nodes zero unread w order y (fresh j i middle what is h lt admitted shaped befores new afters) m le = absurd (omega arith)
bounded nodes (suc d) unread w order y h m le = visit_bounded nodes d (suc d) (bounded nodes d) unread w order y h m le
