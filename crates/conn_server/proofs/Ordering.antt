-- A list in order of its numbers is known by its elements.
use Rattle.std.proofs.Common.{◌≡◌, ℕ, suc, ◌+◌, ◌<◌, ◌≤◌, ◌==◌, cond, get_or, ◌-◌, List, [], ◌∷◌, length, sym, refl, ap, ◌∙◌, arith, eq-eqb, ne_eqb}
use Rattle.std.specs.Prelude.{sum_by}
use Rattle.std.specs.List.{All}
use Rattle.std.specs.List.Sorted.{IsNonDecreasingBy, IsPermutation}
use Rattle.std.proofs.lemmas.List.{get_or_default}
use Rattle.std.proofs.lemmas.List.Sums.{sum_by-cons}
use Rattle.std.proofs.lemmas.List.Sorted.{All-permutation, length_permutation, sum_by-IsPermutation}
use Rattle.conn_server.specs.Rows.{EachAt}
use Rattle.conn_server.proofs.Rows.{each_get}

module _ {X : Type 0} (number : X → ℕ) where
  -- Each element has the number of its place.
  abbrev pub Numbered : ℕ → List X → Type 0
  Numbered n xs = EachAt (λ k x. number x ≡ k) n xs

  -- How many have the number m.
  abbrev named : ℕ → X → ℕ
  named m x = cond (number x == m) 1 0

  named_is : (m : ℕ) (x : X) → number x ≡ m → named m x ≡ 1
  named_is m x is = ap (λ b. cond b 1 0) (eq-eqb (number x) m is)

  named_not : (m : ℕ) (x : X) → ((number x ≡ m) → ⊥) → named m x ≡ 0
  named_not m x is = ap (λ b. cond b 1 0) (ne_eqb (number x) m is)

  -- None of those that are numbered from n has a lower number.
  none_below : (m n : ℕ) (xs : List X) → m < n → Numbered n xs → sum_by (named m) xs ≡ 0
  none_below m n [] lt each = refl
  none_below m n (x ∷ xs) lt each =
      let here = named_not m x (λ same. let is = each.0 in omega (arith, same, is, lt)) in
      let rest = none_below m (suc n) xs (omega (arith, lt)) each.1 in
      let total = sum_by-cons (named m) x xs in
      omega (arith, here, rest, total)

  -- None of a list has a number below all of its numbers.
  none_above : (m : ℕ) (ys : List X) → ((k : ℕ) (d : X) → k < length ys → m < number (get_or ys k d)) → sum_by (named m) ys ≡ 0
  none_above m [] low = refl
  none_above m (y ∷ ys) low =
      let first = low 0 y (omega arith) in
      let here = named_not m y (λ same. omega (arith, same, first)) in
      let rest = none_above m ys (λ k d lt. low (suc k) d (omega (arith, lt))) in
      let total = sum_by-cons (named m) y ys in
      omega (arith, here, rest, total)

  rest_rises : (y : X) (ys : List X) → IsNonDecreasingBy number (y ∷ ys) → IsNonDecreasingBy number ys
  rest_rises y ys up i j d le lt = up (suc i) (suc j) d (omega (arith, le)) (omega (arith, lt))

  abbrev Alike : List X → List X → Type 0
  Alike xs ys = (m : ℕ) → sum_by (named m) ys ≡ sum_by (named m) xs

  -- The first has the lowest number.
  first_number : (n : ℕ) (x : X) (xs : List X) (y : X) (ys : List X) → Numbered n (x ∷ xs) → IsNonDecreasingBy number (y ∷ ys) → Alike (x ∷ xs) (y ∷ ys) → (number y < n → ⊥) × (n < number y → ⊥)
  first_number n x xs y ys each up alike = (
    (λ lt.
        let none = none_below (number y) n (x ∷ xs) lt each in
        let same = alike (number y) in
        let here = named_is (number y) y refl in
        let total = sum_by-cons (named (number y)) y ys in
        omega (arith, none, same, here, total)),
    (λ lt.
        let none = none_above n (y ∷ ys) (λ k d le. let low : number y ≤ number (get_or (y ∷ ys) k d) = up 0 k d (omega arith) le in omega (arith, lt, low)) in
        let same = alike n in
        let here = named_is n x each.0 in
        let total = sum_by-cons (named n) x xs in
        omega (arith, none, same, here, total)),
  )

  numbers_alike : (n : ℕ) (xs ys : List X) → Numbered n xs → IsNonDecreasingBy number ys → length ys ≡ length xs → Alike xs ys → Numbered n ys
  numbers_alike n [] [] each up long alike = tt
  numbers_alike n [] (y ∷ ys) each up long alike = absurd (omega (arith, long))
  numbers_alike n (x ∷ xs) [] each up long alike = absurd (omega (arith, long))
  numbers_alike n (x ∷ xs) (y ∷ ys) each up long alike =
      let two = first_number n x xs y ys each up alike in
      let is : number y ≡ n = exactly (number y) n two.0 two.1 in
      let first : number y ≡ number x = is ∙ sym each.0 in (
        is,
        numbers_alike (suc n) xs ys each.1 (rest_rises y ys up) (omega (arith, long)) (λ m.
            let same = alike m in
            let here : named m y ≡ named m x = ap (λ k. cond (k == m) 1 0) first in
            let a = sum_by-cons (named m) x xs in
            let b = sum_by-cons (named m) y ys in
            omega (arith, same, here, a, b)),
      )
    where
      exactly : (a b : ℕ) → (a < b → ⊥) → (b < a → ⊥) → a ≡ b
      exactly a b l m = omega (arith, l, m)

  -- The element stands at the place of its number.
  abbrev Stands : ℕ → List X → X → Type 0
  Stands n xs x = (d : X) → get_or xs (number x - n) d ≡ x

  same_at : (n : ℕ) (xs ys : List X) → length ys ≡ length xs → Numbered n xs → Numbered n ys → ((k : ℕ) (d : X) → k < length ys → get_or xs k d ≡ get_or ys k d) → ys ≡ xs
  same_at n [] [] long a b same = refl
  same_at n [] (y ∷ ys) long a b same = absurd (omega (arith, long))
  same_at n (x ∷ xs) [] long a b same = absurd (omega (arith, long))
  same_at n (x ∷ xs) (y ∷ ys) long a b same =
      let first : x ≡ y = same 0 x (omega arith) in
      let rest = same_at (suc n) xs ys (omega (arith, long)) a.1 b.1 (λ k d lt. same (suc k) d (omega (arith, lt))) in
      λ i. sym first i ∷ rest i

  stands_at : (n : ℕ) (xs : List X) → Numbered n xs → (k : ℕ) (d : X) → k < length xs → Stands n xs (get_or xs k d)
  stands_at n xs each k d lt other =
      let is : number (get_or xs k d) ≡ k + n = each_get (λ k x. number x ≡ k) n k xs d each lt in
      let back : number (get_or xs k d) - n ≡ k = omega (arith, is) in
      ap (λ (i : ℕ). get_or xs i other) back ∙ get_or_default xs k other d lt

  -- A list that is numbered from n is what sorting its elements gives.
  pub in_order : (n : ℕ) (xs ys : List X) → Numbered n xs → IsPermutation xs ys → IsNonDecreasingBy number ys → ys ≡ xs
  in_order n xs ys each same up =
      let long : length ys ≡ length xs = length_permutation xs ys same in
      let numbered : Numbered n ys = numbers_alike n xs ys each up long (λ m. sum_by-IsPermutation (named m) xs ys same) in
      let all : All (Stands n xs) ys = All-permutation (Stands n xs) xs ys same (λ k d lt. stands_at n xs each k d lt) in
      same_at n xs ys long each numbered (λ k d lt.
      let is : number (get_or ys k d) ≡ k + n = each_get (λ k x. number x ≡ k) n k ys d numbered lt in
      let back : k ≡ number (get_or ys k d) - n = omega (arith, is) in
      ap (λ (i : ℕ). get_or xs i d) back ∙ all k d lt d)
