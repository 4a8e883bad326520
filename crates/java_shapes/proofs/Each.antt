-- What a function gives of each item of a list, from left to right.
use Rattle.std.proofs.Common.{◌≡◌, ◌∙◌, ◌<◌, ◌≤◌, ◌+◌, ℕ, List, [], ◌∷◌, ◌++◌, length, drop, get_or, Option, Some, None, refl, ap, sym, add-one, drop-cons, append_assoc, append-nil}
use Rattle.std.proofs.lemmas.List.{drop_all}
use Rattle.java_shapes.specs.Objects.{and_rest, each}

-- these, and then the others, if there are others
abbrev pub before : {B : Type 0} → List B → Option (List B) → Option (List B)
before ys None = None
before ys (Some zs) = Some (ys ++ zs)

pub each_starts : {B : Type 0} (o : Option (List B)) → before [] o ≡ o
each_starts None = refl
each_starts (Some ys) = refl

joins : {B : Type 0} (ys : List B) (y : B) (o : Option (List B)) → before (ys ++ y ∷ []) o ≡ before ys (and_rest (Some y) o)
joins ys y None = refl
joins ys y (Some zs) = ap Some (append_assoc ys (y ∷ []) zs)

pub each_step : {A B : Type 0} (f : A → Option B) (xs : List A) (i : ℕ) (d : A) (ys more : List B) (y : B) (whole : Option (List B)) → i < length xs → f (get_or xs i d) ≡ Some y → more ≡ ys ++ y ∷ []
    → before ys (each f (drop i xs)) ≡ whole → before more (each f (drop (i + 1) xs)) ≡ whole
each_step f xs i d ys more y whole h e m rest =
    let cut : drop i xs ≡ get_or xs i d ∷ drop (i + 1) xs = rw (add-one) (drop-cons xs i d h) in
    let one : each f (drop i xs) ≡ and_rest (Some y) (each f (drop (i + 1) xs)) = rw (cut, e) refl in
    rw m (joins ys y (each f (drop (i + 1) xs)) ∙ (ap (before ys) (sym one) ∙ rest))

pub each_stops : {A B : Type 0} (f : A → Option B) (xs : List A) (i : ℕ) (d : A) (ys : List B) (whole : Option (List B)) → i < length xs → f (get_or xs i d) ≡ None
    → before ys (each f (drop i xs)) ≡ whole → whole ≡ None
each_stops f xs i d ys whole h e rest =
    let cut : drop i xs ≡ get_or xs i d ∷ drop (i + 1) xs = rw (add-one) (drop-cons xs i d h) in
    let one : each f (drop i xs) ≡ None = rw (cut, e) refl in
    sym rest ∙ rw one refl

pub each_ends : {A B : Type 0} (f : A → Option B) (xs : List A) (i : ℕ) (ys : List B) (whole : Option (List B)) → length xs ≤ i → before ys (each f (drop i xs)) ≡ whole → whole ≡ Some ys
each_ends f xs i ys whole h rest = sym rest ∙ rw (drop_all i xs h) (ap Some (append-nil ys))
