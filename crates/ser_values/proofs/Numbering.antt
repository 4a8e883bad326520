-- Loose nodes in the order of their handles are numbered.
use Rattle.std.proofs.Common.{◌≡◌, ◌||◌, ◌&&◌, not, ℕ, zero, suc, ◌+◌, ◌<◌, Bool, true, false, cond, eqb, List, [], ◌∷◌, ◌++◌, map, length, Some, slice_get, refl, sym, ap, subst, ◌∙◌, append_assoc, arith, inl, inr}
use Rattle.std.proofs.lemmas.Bool.{eqb-true, eqb-false, cases_eq, or_parts, or_right}
use Rattle.std.proofs.lemmas.List.{length-append, length-map, append-nil}
use Rattle.class_desc.specs.declared.slot.Slot.TheVariants as slots
use Rattle.ser_values.specs.declared.node.Node.{Node}
use Rattle.ser_values.specs.declared.node.SlotPlace.{SlotPlace}
use Rattle.ser_values.specs.declared.node.SlotPlace.TheVariants.{Reference, Class, Parent, Text}
use Rattle.ser_values.specs.Node.{has, Want, before, after, is_desc, takes, inside}
use Rattle.ser_values.specs.Visits.{Visiting, VisitAll, Visit, a_null, again, fresh, never, Visits}
use Rattle.ser_values.specs.Numbered.{Numbering, NumberAll, Numbers, no_numbers, Numbered}
use Rattle.ser_values.specs.Numbered as numbers
use Rattle.ser_values.specs.Renumber.{place_in, slot_by, node_by, node_or_by, reordered}
use Rattle.ser_values.specs.Seen.{Once}
use Rattle.ser_values.proofs.Lists.{length_push}
use Rattle.ser_values.proofs.Keeps.{has-push_last, has-push_other}
use Rattle.ser_values.proofs.Added.{in_of, has-seam, has-append_left, place_is, place_once, look, IsAdding, visits_add, all_adds}
use Rattle.ser_values.proofs.Renumbered.{map_push, is_desc-node_by, is_text-node_by, admits-node_by, want_by, before-node_by, after-node_by, Closed, is_shaped-reordered}

both : (a b : Bool) → (a && not b) ≡ true → (a ≡ true) × (b ≡ false)
both false b h = absurd cc
both true true h = absurd cc
both true false h = (refl, refl)

pub self : (x : ℕ) (xs : List ℕ) → has (x ∷ xs) x ≡ true
self x xs = has-seam [] x xs

-- the unread ones keep apart from others
has-map_place : (F unread : List ℕ) (j : ℕ) → Once F → ((x : ℕ) → has unread x ≡ true → has F x ≡ true) → has F j ≡ true → has unread j ≡ false → has (map (place_in F) unread) (place_in F j) ≡ false
unfolding has
has-map_place F [] j once sub hj n = refl
has-map_place F (x ∷ xs) j once sub hj n =
    let p = or_parts (eqb x j) (has xs j) n in
    let rest = has-map_place F xs j once (λ y h. sub y (or_right (eqb x y) (has xs y) h)) hj p.1 in
    go (eqb (place_in F x) (place_in F j)) refl p.0 rest
  where
    go : (b : Bool) → eqb (place_in F x) (place_in F j) ≡ b → eqb x j ≡ false → has (map (place_in F) xs) (place_in F j) ≡ false → (eqb (place_in F x) (place_in F j) || has (map (place_in F) xs) (place_in F j)) ≡ false
    go true e ne r = absurd (eqb-false x j ne (place_once F x j once (sub x (self x xs)) hj (eqb-true _ _ e)))
    go false e ne r = rw (e, r) refl

desc_takes : (F unread : List ℕ) (j : ℕ) (i : Node) → Once F → ((x : ℕ) → has unread x ≡ true → has F x ≡ true) → has F j ≡ true → (is_desc i && not (has unread j)) ≡ true → (is_desc (node_by (place_in F) i) && not (has (map (place_in F) unread) (place_in F j))) ≡ true
desc_takes F unread j i once sub hj h =
    let p = both (is_desc i) (has unread j) h in
    let n = has-map_place F unread j once sub hj p.1 in
    rw (is_desc-node_by (place_in F) i, p.0, n) refl

takes_move : (F unread : List ℕ) (p : SlotPlace) (j : ℕ) (i : Node) → Once F → ((x : ℕ) → has unread x ≡ true → has F x ≡ true) → has F j ≡ true → takes p (has unread j) i ≡ true → takes p (has (map (place_in F) unread) (place_in F j)) (node_by (place_in F) i) ≡ true
unfolding takes
takes_move F unread Reference j i once sub hj h = refl
takes_move F unread Text j i once sub hj h = is_text-node_by (place_in F) i ∙ h
takes_move F unread Class j i once sub hj h = desc_takes F unread j i once sub hj h
takes_move F unread Parent j i once sub hj h = desc_takes F unread j i once sub hj h

inside_move : (F unread : List ℕ) (j k : ℕ) (i : Node) → place_in F j ≡ k → map (place_in F) (inside unread j i) ≡ inside (map (place_in F) unread) k (node_by (place_in F) i)
inside_move F unread j k i e = rw (is_desc-node_by (place_in F) i) (go (is_desc i))
  where
    go : (b : Bool) → map (place_in F) (cond b (unread ++ j ∷ []) unread) ≡ cond b (map (place_in F) unread ++ k ∷ []) (map (place_in F) unread)
    go true = sym (map_push (place_in F) unread j) ∙ rw e refl
    go false = refl

-- ---- so they are numbered

abbrev pub IsNumbering : List Node → List ℕ → Visiting → Numbering → Type 0
IsNumbering loose F Inner Nb = (unread : List ℕ) (w : Want) (order y rest : List ℕ) → Inner unread w order y → F ≡ y ++ rest → ((x : ℕ) → has unread x ≡ true → has order x ≡ true) → Nb (map (place_in F) unread) (want_by (place_in F) w) (length order) (length y)

pub all_numbered : (loose : List Node) (F : List ℕ) (Inner : Visiting) (Nb : Numbering) → IsAdding loose Inner → IsNumbering loose F Inner Nb
    → (unread : List ℕ) (ws : List Want) (order y rest : List ℕ) → VisitAll (Inner unread) ws order y → F ≡ y ++ rest → ((x : ℕ) → has unread x ≡ true → has order x ≡ true)
    → NumberAll (Nb (map (place_in F) unread)) (map (want_by (place_in F)) ws) (length order) (length y)
all_numbered loose F Inner Nb adds numbers unread [] order y rest h e sub = ap (λ (l : List ℕ). length l) h
all_numbered loose F Inner Nb adds numbers unread (w ∷ ws) order y rest h e sub =
    let o = h.0 in
    let p = (adds unread w order o h.1).0 in
    let q = (all_adds loose Inner adds unread ws o y h.2).0 in
    let e1 : F ≡ o ++ (q.added ++ rest) = e ∙ ap (λ (l : List ℕ). l ++ rest) q.grown ∙ append_assoc o q.added rest in
    let sub1 = λ (x : ℕ) (t : has unread x ≡ true). subst (λ (l : List ℕ). has l x ≡ true) (sym p.grown) (has-append_left order p.added x (sub x t)) in
    (length o, numbers unread w order o (q.added ++ rest) h.1 e1 sub, all_numbered loose F Inner Nb adds numbers unread ws o y rest h.2 e sub1)

inside_sub : (unread order : List ℕ) (j : ℕ) (i : Node) → ((x : ℕ) → has unread x ≡ true → has order x ≡ true) → (x : ℕ) → has (inside unread j i) x ≡ true → has (order ++ j ∷ []) x ≡ true
inside_sub unread order j i sub x h = go (is_desc i) h
  where
    go : (b : Bool) → has (cond b (unread ++ j ∷ []) unread) x ≡ true → has (order ++ j ∷ []) x ≡ true
    go false h = has-append_left order (j ∷ []) x (sub x h)
    go true h = elim (cases_eq x j) [
      | inl e ↦ rw e (has-push_last order j)
      | inr ne ↦ has-push_other order j x ne ∙ sub x (sym (has-push_other unread j x ne) ∙ h)
    ]

visit_numbered : (loose : List Node) (F : List ℕ) (left : ℕ) (Inner : Visiting) (Nb : Numbering) → Once F → Closed loose F → IsAdding loose Inner → IsNumbering loose F Inner Nb
    → IsNumbering loose F (Visit loose left Inner) (Numbers (reordered loose F) left Nb)
visit_numbered loose F left Inner Nb once closed adds numbered unread w order y rest (a_null what ok same) e sub =
    numbers.a_null (ap (slot_by (place_in F)) what) ok (ap (λ (l : List ℕ). length l) same)
visit_numbered loose F left Inner Nb once closed adds numbered unread w order y rest (again j i what is h ok same) e sub =
    let r = in_of order j h in
    let e1 : F ≡ order ++ rest = e ∙ ap (λ (l : List ℕ). l ++ rest) same in
    let f : F ≡ r.a ++ j ∷ (r.b ++ rest) = e1 ∙ ap (λ (l : List ℕ). l ++ rest) r.is ∙ append_assoc r.a (j ∷ r.b) rest in
    let k : place_in F j ≡ length r.a = ap (λ (l : List ℕ). place_in l j) f ∙ place_is r.a j (r.b ++ rest) (rw f at once) in
    let in_f : has F j ≡ true = ap (λ (l : List ℕ). has l j) f ∙ has-seam r.a j (r.b ++ rest) in
    let len : length order ≡ length r.a + suc (length r.b) = ap (λ (l : List ℕ). length l) r.is ∙ length-append r.a (j ∷ r.b) in
    let lt : place_in F j < length order = omega arith in
    let sub_f = λ (x : ℕ) (t : has unread x ≡ true). subst (λ (l : List ℕ). has l x ≡ true) (sym e1) (has-append_left order rest x (sub x t)) in
    let found : slice_get (reordered loose F) (place_in F j) ≡ Some (node_by (place_in F) i) = look loose F j once in_f ∙ ap (λ o. Some (node_or_by (place_in F) o)) is in
    numbers.again (place_in F j) (node_by (place_in F) i) (ap (slot_by (place_in F)) what) found lt (takes_move F unread w.0 j i once sub_f in_f ok) (ap (λ (l : List ℕ). length l) same)
visit_numbered loose F left Inner Nb once closed adds numbered unread w order y rest (fresh j i middle what is h lt admitted shaped befores new afters) e sub =
    let p = (all_adds loose Inner adds unread (before i) order middle befores).0 in
    let q = (all_adds loose Inner adds (inside unread j i) (after i) (middle ++ j ∷ []) y afters).0 in
    let f : F ≡ middle ++ j ∷ (q.added ++ rest) = e ∙ ap (λ (l : List ℕ). l ++ rest) (q.grown ∙ append_assoc middle (j ∷ []) q.added) ∙ append_assoc middle (j ∷ q.added) rest in
    let k : place_in F j ≡ length middle = ap (λ (l : List ℕ). place_in l j) f ∙ place_is middle j (q.added ++ rest) (rw f at once) in
    let in_f : has F j ≡ true = ap (λ (l : List ℕ). has l j) f ∙ has-seam middle j (q.added ++ rest) in
    let found : slice_get (reordered loose F) (length middle) ≡ Some (node_by (place_in F) i) = ap (slice_get (reordered loose F)) (sym k) ∙ look loose F j once in_f ∙ ap (λ o. Some (node_or_by (place_in F) o)) is in
    let len : length middle ≡ length order + length p.added = ap (λ (l : List ℕ). length l) p.grown ∙ length-append order p.added in
    let wants = closed.wants j i in_f is in
    let a = all_numbered loose F Inner Nb adds numbered unread (before i) order middle (j ∷ (q.added ++ rest)) befores f sub in
    let sub1 = λ (x : ℕ) (t : has unread x ≡ true). subst (λ (l : List ℕ). has l x ≡ true) (sym p.grown) (has-append_left order p.added x (sub x t)) in
    let b = all_numbered loose F Inner Nb adds numbered (inside unread j i) (after i) (middle ++ j ∷ []) y rest afters e (inside_sub unread middle j i sub1) in
    let a1 : NumberAll (Nb (map (place_in F) unread)) (before (node_by (place_in F) i)) (length order) (length middle) = subst (λ ws. NumberAll (Nb (map (place_in F) unread)) ws (length order) (length middle)) (sym (before-node_by (place_in F) i)) a in
    let b1 : NumberAll (Nb (map (place_in F) (inside unread j i))) (map (want_by (place_in F)) (after i)) (suc (length middle)) (length y) = subst (λ n. NumberAll (Nb (map (place_in F) (inside unread j i))) (map (want_by (place_in F)) (after i)) n (length y)) (length_push middle j) b in
    let b2 : NumberAll (Nb (map (place_in F) (inside unread j i))) (after (node_by (place_in F) i)) (suc (length middle)) (length y) = subst (λ ws. NumberAll (Nb (map (place_in F) (inside unread j i))) ws (suc (length middle)) (length y)) (sym (after-node_by (place_in F) i)) b1 in
    let b3 : NumberAll (Nb (inside (map (place_in F) unread) (length middle) (node_by (place_in F) i))) (after (node_by (place_in F) i)) (suc (length middle)) (length y) = subst (λ u. NumberAll (Nb u) (after (node_by (place_in F) i)) (suc (length middle)) (length y)) (inside_move F unread j (length middle) i k) b2 in
    numbers.fresh (length middle) (node_by (place_in F) i) (ap (slot_by (place_in F)) what ∙ ap (λ n. slots.Node n) k) found (omega arith) lt (admits-node_by (place_in F) w.0 i ∙ admitted) (is_shaped-reordered loose F once closed i wants ∙ shaped) a1 b3

pub visits_numbered : (loose : List Node) (F : List ℕ) (d : ℕ) → Once F → Closed loose F → IsNumbering loose F (Visits loose d) (Numbered (reordered loose F) d)
unfolding Visits Numbered
visits_numbered loose F zero once closed unread w order y rest h e sub =
    visit_numbered loose F zero never no_numbers once closed (λ unread w order y h. absurd h) (λ unread w order y rest h. absurd h) unread w order y rest h e sub
visits_numbered loose F (suc d) once closed unread w order y rest h e sub =
    visit_numbered loose F (suc d) (Visits loose d) (Numbered (reordered loose F) d) once closed (visits_add loose d) (visits_numbered loose F d once closed) unread w order y rest h e sub

pub length-reordered : (loose : List Node) (order : List ℕ) → length (reordered loose order) ≡ length order
unfolding reordered
length-reordered loose order = simp length-map (omega arith)

-- what wants reach is numbered
pub is_numbered : (loose : List Node) (ws : List Want) (d : ℕ) (order : List ℕ) → VisitAll (Visits loose d []) ws [] order → NumberAll (Numbered (reordered loose order) d []) (map (want_by (place_in order)) ws) 0 (length (reordered loose order))
unfolding Once has
is_numbered loose ws d order h =
    let p = (all_adds loose (Visits loose d) (visits_add loose d) [] ws [] order h).0 in
    let once = p.once tt in
    let closed : Closed loose order = record { wants = λ j i g is. p.closed j i g refl is; there = λ j g. p.there j g refl } in
    let n = all_numbered loose order (Visits loose d) (Numbered (reordered loose order) d) (visits_add loose d) (visits_numbered loose order d once closed) [] ws [] order [] h (sym (append-nil order)) (λ x t. absurd cc) in
    subst (λ m. NumberAll (Numbered (reordered loose order) d []) (map (want_by (place_in order)) ws) 0 m) (sym (length-reordered loose order)) n
