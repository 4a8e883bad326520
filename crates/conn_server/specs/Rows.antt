-- Lists whose elements are known by their places.
use Rattle.std.specs.Prelude.{ℕ, suc, List, [], ◌∷◌}

-- Each element has what is said of its place, the first's being n.
abbrev pub EachAt : {A : Type 0} → (ℕ → A → Type 0) → ℕ → List A → Type 0
EachAt P n [] = Unit {0}
EachAt P n (x ∷ xs) = P n x × EachAt P (suc n) xs

-- The elements of two lists stand in pairs, each pair related at its place, the first's being n.
abbrev pub Paired : {A B : Type 0} → (ℕ → A → B → Type 0) → ℕ → List A → List B → Type 0
Paired R n [] [] = Unit {0}
Paired R n (x ∷ xs) (y ∷ ys) = R n x y × Paired R (suc n) xs ys
Paired R n _ _ = ⊥
