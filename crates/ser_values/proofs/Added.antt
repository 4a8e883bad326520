-- What visits add to the nodes that have handles.
use Rattle.std.proofs.Common.{◌≡◌, ℕ, zero, suc, Bool, true, false, cond, eqb, List, [], ◌∷◌, ◌++◌, map, length, Some, slice_get, refl, sym, ap, subst, ◌∙◌, append_assoc, inl, inr, arith}
use Rattle.std.proofs.lemmas.Bool.{eqb-true, cases_eq}
use Rattle.std.proofs.lemmas.List.{append-nil}
use Rattle.class_desc.specs.declared.slot.Slot.{Slot}
use Rattle.class_desc.specs.declared.slot.Slot.TheVariants as slots
use Rattle.ser_values.specs.declared.node.Node.{Node}
use Rattle.ser_values.specs.Node.{has, Want, before, after, inside}
use Rattle.ser_values.specs.Visits.{Visiting, VisitAll, Visit, a_null, again, fresh, never, Visits}
use Rattle.ser_values.specs.Renumber.{place_in, node_or_by, reordered}
use Rattle.ser_values.specs.Seen.{Once}
use Rattle.ser_values.proofs.Lists.{slice_get-append_seam}
use Rattle.ser_values.proofs.Keeps.{has-push_other, Once-push}

-- ---- what is in a list

pub record In (xs : List ℕ) (j : ℕ) : Type 0 where
  pub a : List ℕ
  pub b : List ℕ
  pub is : xs ≡ a ++ j ∷ b

pub in_of : (xs : List ℕ) (j : ℕ) → has xs j ≡ true → In xs j
unfolding has
in_of [] j h = absurd cc
in_of (x ∷ xs) j h = go (λ f. in_of xs j f) (eqb x j) refl
  where
    go : (has xs j ≡ true → In xs j) → (b : Bool) → eqb x j ≡ b → In (x ∷ xs) j
    go more true e = record { a = []; b = xs; is = ap (λ (y : ℕ). y ∷ xs) (eqb-true x j e) }
    go more false e =
        let f : has xs j ≡ true = rw e at h in
        let r = more f in
        record { a = x ∷ r.a; b = r.b; is = ap (λ (l : List ℕ). x ∷ l) r.is }

pub has-seam : (a : List ℕ) (j : ℕ) (b : List ℕ) → has (a ++ j ∷ b) j ≡ true
unfolding has
has-seam [] j b = grind arith
has-seam (x ∷ a) j b = let e = has-seam a j b in grind (arith, e)

pub has-append_left : (xs ys : List ℕ) (j : ℕ) → has xs j ≡ true → has (xs ++ ys) j ≡ true
has-append_left xs ys j h =
    let r = in_of xs j h in
    let e : xs ++ ys ≡ r.a ++ j ∷ (r.b ++ ys) = ap (λ (l : List ℕ). l ++ ys) r.is ∙ append_assoc r.a (j ∷ r.b) ys in
    ap (λ (l : List ℕ). has l j) e ∙ has-seam r.a j (r.b ++ ys)

-- what stands once has the place where it stands
pub place_is : (a : List ℕ) (j : ℕ) (b : List ℕ) → Once (a ++ j ∷ b) → place_in (a ++ j ∷ b) j ≡ length a
unfolding place_in Once has
place_is [] j b o = grind arith
place_is (x ∷ a) j b o = go (place_is a j b o.1) (eqb x j) refl
  where
    go : place_in (a ++ j ∷ b) j ≡ length a → (c : Bool) → eqb x j ≡ c → cond c 0 (suc (place_in (a ++ j ∷ b) j)) ≡ suc (length a)
    go more true e = absurd (let s = has-seam a j b in let t : has (a ++ j ∷ b) x ≡ true = rw (eqb-true x j e) s in let f = o.0 in cc)
    go more false e = ap suc more

pub place_at : (F : List ℕ) (j : ℕ) → Once F → has F j ≡ true → slice_get F (place_in F j) ≡ Some j
place_at F j o h =
    let r = in_of F j h in
    let p : place_in F j ≡ length r.a = ap (λ (l : List ℕ). place_in l j) r.is ∙ place_is r.a j r.b (rw r.is at o) in
    ap (slice_get F) p ∙ ap (λ (l : List ℕ). slice_get l (length r.a)) r.is ∙ slice_get-append_seam r.a j r.b

pub place_once : (F : List ℕ) (i j : ℕ) → Once F → has F i ≡ true → has F j ≡ true → place_in F i ≡ place_in F j → i ≡ j
place_once F i j o h g e =
    let a = place_at F i o h in
    let b = place_at F j o g in
    let c : slice_get F (place_in F j) ≡ Some i = rw (← e) a in
    let s : Some i ≡ Some j = sym c ∙ b in cc

pub slice_get-map : {A B : Type 0} (f : A → B) (xs : List A) (k : ℕ) (x : A) → slice_get xs k ≡ Some x → slice_get (map f xs) k ≡ Some (f x)
slice_get-map f [] k x e = absurd cc
slice_get-map f (y ∷ xs) zero x e = let s : y ≡ x = cc in ap (λ z. Some (f z)) s
slice_get-map f (y ∷ xs) (suc k) x e = slice_get-map f xs k x e

pub look : (loose : List Node) (F : List ℕ) (j : ℕ) → Once F → has F j ≡ true → slice_get (reordered loose F) (place_in F j) ≡ Some (node_or_by (place_in F) (slice_get loose j))
unfolding reordered
look loose F j o h = slice_get-map (λ j. node_or_by (place_in F) (slice_get loose j)) F (place_in F j) j (place_at F j o h)

-- ---- what a slot names is in a list

abbrev pub Names : List ℕ → Slot → Type 0
Names y slots.Null = Unit {0}
Names y (slots.Node k) = has y k ≡ true

abbrev pub NamesAll : List ℕ → List Want → Type 0
NamesAll y [] = Unit {0}
NamesAll y (w ∷ ws) = Names y w.1 × NamesAll y ws

Names-append : (y added : List ℕ) (s : Slot) → Names y s → Names (y ++ added) s
Names-append y added slots.Null n = tt
Names-append y added (slots.Node k) n = has-append_left y added k n

NamesAll-append : (y added : List ℕ) (ws : List Want) → NamesAll y ws → NamesAll (y ++ added) ws
NamesAll-append y added [] n = tt
NamesAll-append y added (w ∷ ws) n = (Names-append y added w.1 n.0, NamesAll-append y added ws n.1)

pub record Wants (y : List ℕ) (i : Node) : Type 0 where
  pub befores : NamesAll y (before i)
  pub afters : NamesAll y (after i)

Wants-append : (y added : List ℕ) (i : Node) → Wants y i → Wants (y ++ added) i
Wants-append y added i n = record { befores = NamesAll-append y added (before i) n.befores; afters = NamesAll-append y added (after i) n.afters }

-- ---- what visits add

pub record Adds (loose : List Node) (order y : List ℕ) : Type 0 where
  pub added : List ℕ
  pub grown : y ≡ order ++ added
  pub once : Once order → Once y
  pub closed : (j : ℕ) (i : Node) → has y j ≡ true → has order j ≡ false → slice_get loose j ≡ Some i → Wants y i
  pub there : (j : ℕ) → has y j ≡ true → has order j ≡ false → (i : Node) × (slice_get loose j ≡ Some i)

adds_none : (loose : List Node) (order y : List ℕ) → y ≡ order → Adds loose order y
adds_none loose order y e = record {
  added = [];
  grown = e ∙ sym (append-nil order);
  once = λ o. rw e o;
  closed = λ j i h n is. absurd (let f : has order j ≡ true = rw e at h in cc);
  there = λ j h n. absurd (let f : has order j ≡ true = rw e at h in cc);
}

grown_two : (a b c x y : List ℕ) → b ≡ a ++ x → c ≡ b ++ y → c ≡ a ++ (x ++ y)
grown_two a b c x y e f = f ∙ ap (λ (l : List ℕ). l ++ y) e ∙ append_assoc a x y

adds_two : (loose : List Node) (a b c : List ℕ) → Adds loose a b → Adds loose b c → Adds loose a c
adds_two loose a b c p q = record {
  added = p.added ++ q.added;
  grown = grown_two a b c p.added q.added p.grown q.grown;
  once = λ o. q.once (p.once o);
  closed = λ j i h n is. closed j i h n is (has b j) refl;
  there = λ j h n. there j h n (has b j) refl;
}
  where
    closed : (j : ℕ) (i : Node) → has c j ≡ true → has a j ≡ false → slice_get loose j ≡ Some i → (t : Bool) → has b j ≡ t → Wants c i
    closed j i h n is true e = subst (λ l. Wants l i) (sym q.grown) (Wants-append b q.added i (p.closed j i e n is))
    closed j i h n is false e = q.closed j i h e is

    there : (j : ℕ) → has c j ≡ true → has a j ≡ false → (t : Bool) → has b j ≡ t → (i : Node) × (slice_get loose j ≡ Some i)
    there j h n true e = p.there j e n
    there j h n false e = q.there j h e

-- a visit adds so, and names its slot
abbrev pub IsAdding : List Node → Visiting → Type 0
IsAdding loose Inner = (unread : List ℕ) (w : Want) (order y : List ℕ) → Inner unread w order y → Adds loose order y × Names y w.1

pub all_adds : (loose : List Node) (Inner : Visiting) → IsAdding loose Inner → (unread : List ℕ) (ws : List Want) (order y : List ℕ) → VisitAll (Inner unread) ws order y → Adds loose order y × NamesAll y ws
all_adds loose Inner adds unread [] order y h = (adds_none loose order y h, tt)
all_adds loose Inner adds unread (w ∷ ws) order y h =
    let p = adds unread w order h.0 h.1 in
    let q = all_adds loose Inner adds unread ws h.0 y h.2 in
    (adds_two loose order h.0 y p.0 q.0, (subst (λ l. Names l w.1) (sym q.0.grown) (Names-append h.0 q.0.added w.1 p.1), q.1))

-- one more node, whose own slots are named by what comes
one_more : (loose : List Node) (middle y : List ℕ) (j : ℕ) (i : Node) → slice_get loose j ≡ Some i → has middle j ≡ false → Wants y i → Adds loose (middle ++ j ∷ []) y → Adds loose middle y
one_more loose middle y j i is new wants q = record {
  added = j ∷ q.added;
  grown = q.grown ∙ append_assoc middle (j ∷ []) q.added;
  once = λ o. q.once (Once-push middle j o new);
  closed = λ k ki h n k_is. elim (cases_eq k j) [
    | inl e ↦ (let f : slice_get loose j ≡ Some ki = rw e at k_is in let g : Some i ≡ Some ki = sym is ∙ f in let same : i ≡ ki = cc in subst (λ x. Wants y x) same wants)
    | inr ne ↦ q.closed k ki h (has-push_other middle j k ne ∙ n) k_is
  ];
  there = λ k h n. elim (cases_eq k j) [
    | inl e ↦ (i, rw e is)
    | inr ne ↦ q.there k h (has-push_other middle j k ne ∙ n)
  ];
}

visit_adds : (loose : List Node) (left : ℕ) (Inner : Visiting) → IsAdding loose Inner → IsAdding loose (Visit loose left Inner)
visit_adds loose left Inner adds unread w order y (a_null what ok same) = (adds_none loose order y same, subst (λ s. Names y s) (sym what) tt)
visit_adds loose left Inner adds unread w order y (again j i what is h ok same) = (adds_none loose order y same, subst (λ s. Names y s) (sym what) (rw same h))
visit_adds loose left Inner adds unread w order y (fresh j i middle what is h lt admitted shaped befores new afters) =
    let p = all_adds loose Inner adds unread (before i) order middle befores in
    let q = all_adds loose Inner adds (inside unread j i) (after i) (middle ++ j ∷ []) y afters in
    let grown : y ≡ middle ++ j ∷ q.0.added = q.0.grown ∙ append_assoc middle (j ∷ []) q.0.added in
    let wants : Wants y i = record { befores = subst (λ l. NamesAll l (before i)) (sym grown) (NamesAll-append middle (j ∷ q.0.added) (before i) p.1); afters = q.1 } in
    let m = one_more loose middle y j i is new wants q.0 in
    let named : has y j ≡ true = ap (λ (l : List ℕ). has l j) grown ∙ has-seam middle j q.0.added in
    (adds_two loose order middle y p.0 m, subst (λ s. Names y s) (sym what) named)

pub visits_add : (loose : List Node) (d : ℕ) → IsAdding loose (Visits loose d)
unfolding Visits
visits_add loose zero unread w order y h = visit_adds loose zero never (λ unread w order y h. absurd h) unread w order y h
visits_add loose (suc d) unread w order y h = visit_adds loose (suc d) (Visits loose d) (visits_add loose d) unread w order y h
