-- A count over a list is the sum of the counts over its parts, one for each key.
use Rattle.std.proofs.Common.{◌≡◌, ℕ, ◌+◌, ◌-◌, ◌<◌, ◌≤◌, inl, inr, List, [], ◌∷◌, length, refl, ap, sym, subst, ◌∙◌, arith, cond}
use Rattle.std.specs.Prelude.{Bool, true, false, ◌&&◌, ◌||◌, filter, if◌then◌else◌, sum_by, map, nat_lt}
use Rattle.std.specs.List.{list_any, AllByRecursion}
use Rattle.std.proofs.lemmas.List.Sums.{sum_by-cons}
use Rattle.std.proofs.lemmas.Bool.{or_cases, or_left, lt-ltb, ltb-true, ltb-false}
use Rattle.history.specs.Lists.{distinct}
use Rattle.history.proofs.ListLemmas.{every-weaker, IsEquality, same_test, and_false, and_true}

unfoldable pub one_if : Bool → ℕ
one_if true = 1
one_if false = 0

pub sum_by-plus : {X : Type 0} (f g : X → ℕ) (xs : List X) → sum_by (λ x. f x + g x) xs ≡ sum_by f xs + sum_by g xs
sum_by-plus f g [] = omega arith
sum_by-plus f g (x ∷ xs) =
    let a = sum_by-cons (λ x. f x + g x) x xs in let b = sum_by-cons f x xs in let c = sum_by-cons g x xs in let ih = sum_by-plus f g xs in omega arith

pub sum_by-same : {X : Type 0} (f g : X → ℕ) → ((x : X) → f x ≡ g x) → (xs : List X) → sum_by f xs ≡ sum_by g xs
sum_by-same f g h [] = refl
sum_by-same f g h (x ∷ xs) = let a = sum_by-cons f x xs in let b = sum_by-cons g x xs in let ih = sum_by-same f g h xs in let here = h x in omega arith

pub sum_by-none : {X : Type 0} (xs : List X) → sum_by (λ x. 0) xs ≡ 0
sum_by-none [] = refl
sum_by-none {X} (x ∷ xs) = let a = sum_by-cons (λ (y : X). 0) x xs in let ih = sum_by-none xs in omega arith

-- A sum of differences, none of which stops at 0.
pub sum_by-minus : {X : Type 0} (f g : X → ℕ) → ((x : X) → g x ≤ f x) → (xs : List X) → (sum_by (λ x. f x - g x) xs + sum_by g xs ≡ sum_by f xs)
sum_by-minus f g h [] = omega arith
sum_by-minus f g h (x ∷ xs) =
    let a = sum_by-cons (λ x. f x - g x) x xs in let b = sum_by-cons f x xs in let c = sum_by-cons g x xs in let ih = sum_by-minus f g h xs in let here = h x in omega arith

pub length-filter-cons : {X : Type 0} (p : X → Bool) (x : X) (xs : List X) → length (filter p (x ∷ xs)) ≡ one_if (p x) + length (filter p xs)
unfolding one_if
length-filter-cons p x xs = go (p x)
  where
    go : (b : Bool) → length (cond b (x ∷ filter p xs) (filter p xs)) ≡ one_if b + length (filter p xs)
    go true = omega arith
    go false = omega arith

-- How often a key stands among some.
abbrev times : {K : Type 0} → (K → K → Bool) → K → List K → ℕ
times same k ks = sum_by (λ j. one_if (same k j)) ks

times-distinct : {K : Type 0} (same : K → K → Bool) → IsEquality same → (k : K) (ks : List K) → times same k (distinct same ks) ≡ one_if (list_any (same k) ks)
unfolding one_if
times-distinct same e k [] = refl
times-distinct {K} same e k (j ∷ js) = go (list_any (same j) js) refl (same k j) refl (list_any (same k) js) refl (times-distinct same e k js)
  where
    moved : same k j ≡ true → list_any (same j) js ≡ list_any (same k) js
    moved h = let P : K → Type 0 = λ i. list_any (same i) js ≡ list_any (same k) js in subst P (e.equal k j h) refl

    go : (a : Bool) → list_any (same j) js ≡ a → (b : Bool) → same k j ≡ b → (c : Bool) → list_any (same k) js ≡ c →
        times same k (distinct same js) ≡ one_if (list_any (same k) js) →
        times same k (if a then distinct same js else j ∷ distinct same js) ≡ one_if (b || c)
    go true p true q c r ih = let there : list_any (same k) js ≡ true = sym (moved q) ∙ p in ih ∙ ap one_if there
    go true p false q c r ih = ih ∙ ap one_if r
    go false p true q c r ih =
        let away : list_any (same k) js ≡ false = sym (moved q) ∙ p in
        let a = sum_by-cons (λ i. one_if (same k i)) j (distinct same js) in
        let here : one_if (same k j) ≡ 1 = ap one_if q in
        let rest : times same k (distinct same js) ≡ 0 = ih ∙ ap one_if away in omega arith
    go false p false q c r ih =
        let a = sum_by-cons (λ i. one_if (same k i)) j (distinct same js) in
        let here : one_if (same k j) ≡ 0 = ap one_if q in
        let rest : times same k (distinct same js) ≡ one_if c = ih ∙ ap one_if r in omega arith

-- A part's share of one item.
share : {K : Type 0} (same : K → K → Bool) (k : K) (v : Bool) (ks : List K) → times same k ks ≡ 1 → sum_by (λ j. one_if (same k j && v)) ks ≡ one_if v
unfolding one_if
share same k true ks once = sum_by-same (λ j. one_if (same k j && true)) (λ j. one_if (same k j)) (λ j. ap one_if (and_true (same k j))) ks ∙ once
share same k false ks once = sum_by-same (λ j. one_if (same k j && false)) (λ j. 0) (λ j. ap one_if (and_false (same k j))) ks ∙ sum_by-none ks

parts : {X K : Type 0} (same : K → K → Bool) (key : X → K) (q : X → Bool) (ks : List K) (xs : List X) → AllByRecursion (λ x. times same (key x) ks ≡ 1) xs →
    sum_by (λ k. length (filter (λ x. same (key x) k && q x) xs)) ks ≡ length (filter q xs)
parts same key q ks [] h = sum_by-none ks
parts same key q ks (x ∷ xs) h =
    sum_by-same (λ k. length (filter (λ y. same (key y) k && q y) (x ∷ xs))) (λ k. one_if (same (key x) k && q x) + length (filter (λ y. same (key y) k && q y) xs))
    (λ k. length-filter-cons (λ y. same (key y) k && q y) x xs) ks
    ∙ sum_by-plus (λ k. one_if (same (key x) k && q x)) (λ k. length (filter (λ y. same (key y) k && q y) xs)) ks
    ∙ ap (λ n. n + sum_by (λ k. length (filter (λ y. same (key y) k && q y) xs)) ks) (share same (key x) (q x) ks h.0)
    ∙ ap (λ n. one_if (q x) + n) (parts same key q ks xs h.1)
    ∙ sym (length-filter-cons q x xs)

once_each : {X K : Type 0} (same : K → K → Bool) → IsEquality same → (key : X → K) (xs : List X) → AllByRecursion (λ x. times same (key x) (distinct same (map key xs)) ≡ 1) xs
unfolding one_if
once_each {X} {K} same e key xs = every-weaker (λ x. list_any (same (key x)) (map key xs) ≡ true) (λ x. times same (key x) (distinct same (map key xs)) ≡ 1)
    (λ x h. times-distinct same e (key x) (map key xs) ∙ ap one_if h) xs (among xs)
  where
    later : (x : X) (ys : List X) (zs : List X) → AllByRecursion (λ y. list_any (same (key y)) (map key ys) ≡ true) zs → AllByRecursion (λ y. list_any (same (key y)) (map key (x ∷ ys)) ≡ true) zs
    later x ys [] h = tt
    later x ys (z ∷ zs) h = (rw h.0 (or_true (same (key z) (key x))), later x ys zs h.1)
      where
        or_true : (b : Bool) → (b || true) ≡ true
        or_true true = refl
        or_true false = refl

    among : (ys : List X) → AllByRecursion (λ y. list_any (same (key y)) (map key ys) ≡ true) ys
    among [] = tt
    among (y ∷ ys) = (or_left (same (key y) (key y)) (list_any (same (key y)) (map key ys)) (e.self (key y)), later y ys ys (among ys))

-- THE PARTS by key of what passes a test.
pub sum_by-parts : {X K : Type 0} (same : K → K → Bool) → IsEquality same → (key : X → K) (q : X → Bool) (xs : List X) →
    sum_by (λ k. length (filter (λ x. same (key x) k && q x) xs)) (distinct same (map key xs)) ≡ length (filter q xs)
sum_by-parts same e key q xs = parts same key q (distinct same (map key xs)) xs (once_each same e key xs)

-- Some summand is not 0 exactly where the sum is not.
pub list_any-sum_by : {X : Type 0} (f : X → ℕ) (xs : List X) → list_any (λ x. nat_lt 0 (f x)) xs ≡ nat_lt 0 (sum_by f xs)
list_any-sum_by f [] = refl
list_any-sum_by f (x ∷ xs) =
    same_test (nat_lt 0 (f x) || list_any (λ y. nat_lt 0 (f y)) xs) (nat_lt 0 (sum_by f (x ∷ xs)))
    (λ h. lt-ltb 0 (sum_by f (x ∷ xs)) (elim (or_cases (nat_lt 0 (f x)) (list_any (λ y. nat_lt 0 (f y)) xs) h) [
      | inl here ↦ (let a = sum_by-cons f x xs in let b = ltb-true 0 (f x) here in omega arith)
      | inr there ↦ (let a = sum_by-cons f x xs in let b = ltb-true 0 (sum_by f xs) (sym (list_any-sum_by f xs) ∙ there) in omega arith)
    ]))
    (λ h. back (nat_lt 0 (f x)) refl (sym (list_any-sum_by f xs)) (ltb-true 0 (sum_by f (x ∷ xs)) h))
  where
    back : (b : Bool) → nat_lt 0 (f x) ≡ b → nat_lt 0 (sum_by f xs) ≡ list_any (λ y. nat_lt 0 (f y)) xs → 0 < sum_by f (x ∷ xs) → (b || list_any (λ y. nat_lt 0 (f y)) xs) ≡ true
    back true e ih h = refl
    back false e ih h = sym ih ∙ lt-ltb 0 (sum_by f xs) (let a = sum_by-cons f x xs in let none = ltb-false 0 (f x) e in omega arith)
