-- A table of places.
use Rattle.std.proofs.Common.{◌≡◌, ◌≢◌, ℕ, zero, suc, ◌+◌, ◌-◌, ◌<◌, ◌≤◌, Bool, true, false, cond, eqb, List, [], ◌∷◌, length, drop, drop-cons, get_or, add-one, Some, slice_get, slice_set, refl, sym, ap, ◌∙◌, arith}
use Rattle.std.proofs.lemmas.Bool.{eqb-true, eqb-false, or_right}
use Rattle.ser_values.specs.Node.{has}
use Rattle.ser_values.specs.Seen.{Once}
use Rattle.ser_values.specs.Renumber.{place_in, HasPlaces, AllBelow}
use Rattle.ser_values.proofs.Lists.{slice_get-set_other}
use Rattle.ser_values.proofs.Keeps.{set_here}
use Rattle.ser_values.proofs.Added.{has-seam}

pub placed_none : (xs : List ℕ) (b : ℕ) (places : List ℕ) → xs ≡ [] → HasPlaces xs b places
unfolding has
placed_none [] b places e j h = absurd cc
placed_none (x ∷ xs) b places e j h = absurd cc

pub placed_step : (x : ℕ) (xs : List ℕ) (b : ℕ) (places : List ℕ) → x < length places → HasPlaces xs (b + 1) places → HasPlaces (x ∷ xs) b (slice_set places x b)
unfolding has place_in
placed_step x xs b places lt placed j h = go (eqb x j) refl
  where
    go : (c : Bool) → eqb x j ≡ c → slice_get (slice_set places x b) j ≡ Some (b + cond c 0 (suc (place_in xs j)))
    go true e =
        let same : x ≡ j = eqb-true x j e in
        let z : b + 0 ≡ b = omega arith in
        rw (← same) (set_here places x b lt ∙ ap (λ (n : ℕ). Some n) (sym z))
    go false e =
        let ne : j ≢ x = λ s. eqb-false x j e (sym s) in
        let in_xs : has xs j ≡ true = rw e at h in
        let z : (b + 1) + place_in xs j ≡ b + suc (place_in xs j) = omega arith in
        slice_get-set_other places x j b ne ∙ placed j in_xs ∙ ap (λ (n : ℕ). Some n) z

pub head_below : (x : ℕ) (xs : List ℕ) (n : ℕ) → AllBelow (x ∷ xs) n → x < n
head_below x xs n below = below x (has-seam [] x xs)

has-drop : (xs : List ℕ) (i j : ℕ) → has (drop i xs) j ≡ true → has xs j ≡ true
unfolding has
has-drop xs zero j h = h
has-drop [] (suc i) j h = h
has-drop (x ∷ xs) (suc i) j h = or_right (eqb x j) (has xs j) (has-drop xs i j h)

pub below_drop : (xs : List ℕ) (i n : ℕ) → AllBelow xs n → AllBelow (drop i xs) n
below_drop xs i n below j h = below j (has-drop xs i j h)

pub get_or-some : (xs : List ℕ) (j v : ℕ) → slice_get xs j ≡ Some v → get_or xs j 0 ≡ v
get_or-some [] j v e = absurd cc
get_or-some (x ∷ xs) zero v e = cc
get_or-some (x ∷ xs) (suc j) v e = get_or-some xs j v e

pub drop_one : (xs : List ℕ) (i : ℕ) → 0 < i → i ≤ length xs → drop (i - 1) xs ≡ get_or xs (i - 1) 0 ∷ drop i xs
drop_one xs i some le =
    let e : suc (i - 1) ≡ i = omega arith in
    drop-cons xs (i - 1) 0 (omega arith) ∙ ap (λ n. get_or xs (i - 1) 0 ∷ drop n xs) e

pub drop_next : (xs : List ℕ) (i : ℕ) → i < length xs → drop i xs ≡ get_or xs i 0 ∷ drop (i + 1) xs
drop_next xs i lt = rw add-one (drop-cons xs i 0 lt)

-- what is next stands nowhere later, where no number stands twice
pub record Next (xs : List ℕ) (i : ℕ) : Type 0 where
  pub here : has (drop i xs) (get_or xs i 0) ≡ true
  pub apart : has (drop (i + 1) xs) (get_or xs i 0) ≡ false
  pub once : Once (drop (i + 1) xs)
  pub later : (j : ℕ) → has (drop (i + 1) xs) j ≡ true → has (drop i xs) j ≡ true

pub next : (xs : List ℕ) (i : ℕ) → i < length xs → Once (drop i xs) → Next xs i
unfolding Once has
next xs i lt once =
    let e = drop_next xs i lt in
    let o : Once (get_or xs i 0 ∷ drop (i + 1) xs) = rw e at once in
    record {
      here = rw e (has-seam [] (get_or xs i 0) (drop (i + 1) xs));
      apart = o.0;
      once = o.1;
      later = λ j h. rw e (or_right (eqb (get_or xs i 0) j) (has (drop (i + 1) xs) j) h);
    }

pub other_than : (xs : List ℕ) (j k : ℕ) → has xs j ≡ true → has xs k ≡ false → j ≢ k
other_than xs j k h n same = let f : has xs j ≡ false = rw same n in absurd cc
