-- Equality of texts, from left to right.
use Rattle.std.proofs.Common.{◌≡◌, ◌≢◌, ◌<◌, ◌≤◌, ◌+◌, ◌&&◌, ℕ, zero, suc, Bool, true, false, nat_eq, List, [], ◌∷◌, length, drop, get_or, refl, ap, sym, subst, arith, add-one, drop-cons}
use Rattle.std.specs.Prelude.{IsTrue, ◌↔◌}
use Rattle.std.proofs.lemmas.Bool.{eqb-true}
use Rattle.std.proofs.lemmas.Bool.Decides.{nat_tests}
use Rattle.java_shapes.specs.Objects.{same_text}

is_eq : (x y : ℕ) → x ≡ y → nat_eq x y ≡ true
is_eq x y e = grind (arith, nat_tests)

pub same_apart : (xs ys : List ℕ) → length xs ≢ length ys → same_text xs ys ≡ false
unfolding same_text
same_apart [] [] h = absurd (h refl)
same_apart [] (y ∷ ys) h = refl
same_apart (x ∷ xs) [] h = refl
same_apart (x ∷ xs) (y ∷ ys) h = rw (same_apart xs ys (λ e. h (ap suc e))) (no_and (nat_eq x y))
  where
    no_and : (b : Bool) → b && false ≡ false
    no_and true = refl
    no_and false = refl

pub same_more : (xs ys : List ℕ) (i : ℕ) → i < length xs → i < length ys → same_text (drop i xs) (drop i ys) ≡ (nat_eq (get_or xs i 0) (get_or ys i 0) && same_text (drop (i + 1) xs) (drop (i + 1) ys))
unfolding same_text
same_more xs ys i h k = rw (add-one, drop-cons xs i 0, drop-cons ys i 0)

-- one more unit is compared
pub same_step : (b : Bool) (xs ys : List ℕ) (i : ℕ) → i < length xs → i < length ys → ((b && nat_eq (get_or xs i 0) (get_or ys i 0)) && same_text (drop (i + 1) xs) (drop (i + 1) ys)) ≡ (b && same_text (drop i xs) (drop i ys))
same_step true xs ys i h k = sym (same_more xs ys i h k)
same_step false xs ys i h k = refl

gone : (xs : List ℕ) (i : ℕ) → length xs ≤ i → drop i xs ≡ []
gone [] zero h = refl
gone [] (suc i) h = refl
gone (x ∷ xs) zero h = absurd (omega arith)
gone (x ∷ xs) (suc i) h = gone xs i (omega arith)

pub same_ends : (xs ys : List ℕ) (i : ℕ) → length xs ≤ i → length ys ≤ i → same_text (drop i xs) (drop i ys) ≡ true
unfolding same_text
same_ends xs ys i h k = rw (gone xs i h, gone ys i k) refl

-- all units are compared
pub same_ended : (b : Bool) (xs ys : List ℕ) (i : ℕ) → length xs ≤ i → length ys ≤ i → (b && same_text (drop i xs) (drop i ys)) ≡ b
same_ended true xs ys i h k = same_ends xs ys i h k
same_ended false xs ys i h k = refl

pub same_refl : (xs : List ℕ) → same_text xs xs ≡ true
unfolding same_text
same_refl [] = refl
same_refl (x ∷ xs) = rw (same_refl xs, is_eq x x refl) refl

and_true : (a b : Bool) → (a && b) ≡ true → (a ≡ true) × (b ≡ true)
and_true true true h = (refl, refl)
and_true true false h = absurd cc
and_true false true h = absurd cc
and_true false false h = absurd cc

pub same_true : (xs ys : List ℕ) → same_text xs ys ≡ true → xs ≡ ys
unfolding same_text
same_true [] [] h = refl
same_true [] (y ∷ ys) h = absurd cc
same_true (x ∷ xs) [] h = absurd cc
same_true (x ∷ xs) (y ∷ ys) h =
    let parts = and_true (nat_eq x y) (same_text xs ys) h in
    let first : x ≡ y = eqb-true x y parts.0 in
    let rest : xs ≡ ys = same_true xs ys parts.1 in
    cc

pub same_by : (b : Bool) (xs ys : List ℕ) → (IsTrue b ↔ (xs ≡ ys)) → b ≡ same_text xs ys
same_by true xs ys h = let e : xs ≡ ys = h.0 refl in sym (subst (λ (l : List ℕ). same_text xs l ≡ true) e (same_refl xs))
same_by false xs ys h = by_cases (same_text xs ys) refl
  where
    by_cases : (c : Bool) → same_text xs ys ≡ c → false ≡ same_text xs ys
    by_cases true e = let k : false ≡ true = h.1 (same_true xs ys e) in absurd cc
    by_cases false e = sym e
