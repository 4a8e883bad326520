-- Words on lists and options: no item twice, each item once, items in order, a test of what may be there.
use Rattle.std.specs.Prelude.{◌≡◌, Bool, false, List, [], ◌∷◌, if◌then◌else◌, Option, Some, None}
use Rattle.std.specs.List.{list_any}
use Rattle.std.specs.Ordering.{is_lt, is_eq}
use Rattle.std.specs.declared.cmp.Ordering.{Ordering}

-- No item stands twice, where the test says which are the same.
abbrev pub AllOnce : {X : Type 0} → (X → X → Bool) → List X → Type 0
AllOnce same [] = Unit {0}
AllOnce same (x ∷ xs) = (list_any (same x) xs ≡ false) × AllOnce same xs

-- Each of these items once, where the test says which are the same.
abbrev pub distinct : {X : Type 0} → (X → X → Bool) → List X → List X
distinct same [] = []
distinct same (x ∷ xs) = if list_any (same x) xs then distinct same xs else x ∷ distinct same xs

-- A list in order, with one more item, unless that item is there.
abbrev pub with_item : {X : Type 0} → (X → X → Ordering) → X → List X → List X
with_item cmp x [] = x ∷ []
with_item cmp x (y ∷ ys) =
    if is_lt (cmp x y) then x ∷ y ∷ ys
    else if is_eq (cmp x y) then y ∷ ys
    else y ∷ with_item cmp x ys

-- These items in order, each once.
abbrev pub in_order : {X : Type 0} → (X → X → Ordering) → List X → List X
in_order cmp [] = []
in_order cmp (x ∷ xs) = with_item cmp x (in_order cmp xs)

-- There is a value, and it passes the test.
abbrev pub option_any : {X : Type 0} → (X → Bool) → Option X → Bool
option_any test None = false
option_any test (Some x) = test x
