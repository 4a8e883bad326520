-- Lists of numbers, and places of lists.
use Rattle.std.proofs.Common.{◌≡◌, ◌≢◌, ℕ, zero, suc, ◌≤◌, ◌<◌, Bool, true, false, cond, eqb, List, [], ◌∷◌, ◌++◌, length, get_or, Some, slice_get, slice_set, refl, sym, ap, ◌∙◌, append_assoc, arith}
use Rattle.std.proofs.lemmas.Bool.{eqb-true, eqb-false, or_parts}
use Rattle.std.proofs.Math.Seq.{set-append_seam}
use Rattle.ser_values.specs.Node.{has}

pub slice_get-append_left : {X : Type 0} (xs ys : List X) (k : ℕ) → k < length xs → slice_get (xs ++ ys) k ≡ slice_get xs k
slice_get-append_left [] ys k h = absurd (omega arith)
slice_get-append_left (x ∷ xs) ys zero h = refl
slice_get-append_left (x ∷ xs) ys (suc k) h = slice_get-append_left xs ys k (omega arith)

pub slice_get-append_seam : {X : Type 0} (xs : List X) (y : X) (ys : List X) → slice_get (xs ++ y ∷ ys) (length xs) ≡ Some y
slice_get-append_seam [] y ys = refl
slice_get-append_seam (x ∷ xs) y ys = slice_get-append_seam xs y ys

pub slice_get-set_other : {X : Type 0} (xs : List X) (n k : ℕ) (y : X) → k ≢ n → slice_get (slice_set xs n y) k ≡ slice_get xs k
slice_get-set_other [] n k y h = refl
slice_get-set_other (x ∷ xs) zero zero y h = absurd (h refl)
slice_get-set_other (x ∷ xs) zero (suc k) y h = refl
slice_get-set_other (x ∷ xs) (suc n) zero y h = refl
slice_get-set_other (x ∷ xs) (suc n) (suc k) y h = slice_get-set_other xs n k y (λ e. h (ap suc e))

eqb_other : (n k : ℕ) → k ≢ n → eqb n k ≡ false
eqb_other n k ne = go (eqb n k) refl
  where
    go : (b : Bool) → eqb n k ≡ b → b ≡ false
    go true e = absurd (ne (sym (eqb-true n k e)))
    go false e = refl

pub has-append_no : (xs : List ℕ) (n k : ℕ) → has (xs ++ n ∷ []) k ≡ false → (has xs k ≡ false) × (k ≢ n)
unfolding has
has-append_no [] n k h = (refl, λ e. eqb-false n k (or_parts (eqb n k) false h).0 (sym e))
has-append_no (x ∷ xs) n k h =
    let p = or_parts (eqb x k) (has (xs ++ n ∷ []) k) h in
    let r = has-append_no xs n k p.1 in
    (rw p.0 r.0, r.1)

pub has-append_other : (xs : List ℕ) (n k : ℕ) → has xs k ≡ false → k ≢ n → has (xs ++ n ∷ []) k ≡ false
unfolding has
has-append_other [] n k h ne = let e = eqb_other n k ne in rw e refl
has-append_other (x ∷ xs) n k h ne =
    let p = or_parts (eqb x k) (has xs k) h in
    rw p.0 (has-append_other xs n k p.1 ne)

pub has_not : (xs : List ℕ) (n : ℕ) → ((k : ℕ) → has xs k ≡ true → k < n) → (k : ℕ) → n ≤ k → has xs k ≡ false
has_not xs n below k le = go (has xs k) refl
  where
    go : (b : Bool) → has xs k ≡ b → b ≡ false
    go true e = absurd (let lt : k < n = below k e in omega arith)
    go false e = refl

pub length_push : {X : Type 0} (xs : List X) (y : X) → length (xs ++ y ∷ []) ≡ suc (length xs)
length_push [] y = refl
length_push (x ∷ xs) y = ap suc (length_push xs y)

-- a place that was kept free is filled
pub record Fills {X : Type 0} (xs : List X) (y : X) (added made : List X) : Type 0 where
  pub parts : made ≡ xs ++ y ∷ added
  pub here : slice_get made (length xs) ≡ Some y

pub fills : {X : Type 0} (xs : List X) (free y : X) (added before : List X) → before ≡ (xs ++ free ∷ []) ++ added → Fills xs y added (slice_set before (length xs) y)
fills {X} xs free y added before e =
    let e1 : before ≡ xs ++ free ∷ added = e ∙ append_assoc xs (free ∷ []) added in
    let e2 : slice_set before (length xs) y ≡ xs ++ y ∷ added = ap (λ (b : List X). slice_set b (length xs) y) e1 ∙ set-append_seam xs free added y in
    record { parts = e2; here = ap (λ (b : List X). slice_get b (length xs)) e2 ∙ slice_get-append_seam xs y added }

pub slice_get-or : {X : Type 0} (xs : List X) (k : ℕ) (x : X) → k < length xs → x ≡ get_or xs k x → slice_get xs k ≡ Some x
slice_get-or [] k x lt e = absurd (omega arith)
slice_get-or (y ∷ xs) zero x lt e = ap (λ z. Some z) (sym e)
slice_get-or (y ∷ xs) (suc k) x lt e = slice_get-or xs k x (omega arith) e

pub some_same : {X : Type 0} (x y : X) → Some x ≡ Some y → x ≡ y
some_same x y e = cc

pub found_at : {X : Type 0} (xs : List X) (k : ℕ) → k < length xs → (x : X) × (slice_get xs k ≡ Some x)
found_at [] k h = absurd (omega arith)
found_at (x ∷ xs) zero h = (x, refl)
found_at (x ∷ xs) (suc k) h = found_at xs k (omega arith)

-- one number more in the list, or none
pub still_not : (xs : List ℕ) (k j : ℕ) (d : Bool) → has xs j ≡ false → j ≢ k → has (cond d (xs ++ k ∷ []) xs) j ≡ false
still_not xs k j true h ne = has-append_other xs k j h ne
still_not xs k j false h ne = h
