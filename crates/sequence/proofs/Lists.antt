-- Lemmas on lists of any items.
use Rattle.std.proofs.Common.{◌≡◌, ℕ, ◌+◌, ◌<◌, ◌≤◌, List, [], ◌∷◌, length, refl, ap, cond, arith, get_or, drop, add-one}
use Rattle.std.proofs.Math.Seq.{drop-cons}
use Rattle.std.specs.Prelude.{Bool, true, false, not, filter, if◌then◌else◌}

-- A filter that passes every item keeps the list.
pub all_stay : {X : Type 0} (xs : List X) → filter (λ x. not false) xs ≡ xs
all_stay [] = refl
all_stay (x ∷ xs) = ap (λ l. x ∷ l) (all_stay xs)

-- A filter keeps no more items than there are.
pub filter-shorter : {X : Type 0} (test : X → Bool) (xs : List X) → length (filter test xs) ≤ length xs
filter-shorter test [] = omega arith
filter-shorter {X} test (x ∷ xs) = go (test x) (filter-shorter test xs)
  where
    go : (b : Bool) → length (filter test xs) ≤ length xs → length (cond b (x ∷ filter test xs) (filter test xs)) ≤ length (x ∷ xs)
    go true h = omega arith
    go false h = omega arith

-- No item either way.
pub none-either : {X : Type 0} (b : Bool) → ◌≡◌ {A = List X} (if b then [] else []) []
none-either true = refl
none-either false = refl

-- From an index on: the item there, and the rest.
pub drop-at : {X : Type 0} (xs : List X) (i : ℕ) (d : X) → i < length xs → drop i xs ≡ get_or xs i d ∷ drop (i + 1) xs
drop-at xs i d h = rw add-one (drop-cons xs i d h)
