-- A list whose items are replaced one after the other.
use Rattle.std.proofs.Common.{◌≡◌, ℕ, zero, suc, ◌+◌, ◌<◌, List, [], ◌∷◌, ◌++◌, map, take, drop, length, get_or, Some, slice_get, slice_set, refl, sym, ap, ◌∙◌, add-one, arith}
use Rattle.ser_values.proofs.Lists.{slice_get-or}

-- the first i items are replaced
abbrev pub partly : {A : Type 0} → (A → A) → List A → ℕ → List A
partly f xs i = map f (take i xs) ++ drop i xs

get_partly : {A : Type 0} (f : A → A) (xs : List A) (i : ℕ) → slice_get (partly f xs i) i ≡ slice_get xs i
get_partly f [] zero = refl
get_partly f [] (suc i) = refl
get_partly f (x ∷ xs) zero = refl
get_partly f (x ∷ xs) (suc i) = get_partly f xs i

set_partly : {A : Type 0} (f : A → A) (xs : List A) (i : ℕ) (x : A) → slice_get xs i ≡ Some x → slice_set (partly f xs i) i (f x) ≡ partly f xs (suc i)
set_partly f [] i x e = absurd cc
set_partly f (a ∷ xs) zero x e = let same : a ≡ x = cc in ap (λ z. f z ∷ xs) (sym same)
set_partly f (a ∷ xs) (suc i) x e = ap (λ l. f a ∷ l) (set_partly f xs i x e)

pub partly_next : {A : Type 0} (f : A → A) (xs now : List A) (i : ℕ) (x y : A) → now ≡ partly f xs i → i < length now → x ≡ get_or now i x → y ≡ f x → slice_set now i y ≡ partly f xs (i + 1)
partly_next f xs now i x y is lt at done =
    let there : slice_get now i ≡ Some x = slice_get-or now i x lt at in
    let here : slice_get xs i ≡ Some x = sym (get_partly f xs i) ∙ ap (λ l. slice_get l i) (sym is) ∙ there in
    ap (λ z. slice_set now i z) done ∙ ap (λ l. slice_set l i (f x)) is ∙ set_partly f xs i x here ∙ ap (λ n. partly f xs n) (sym (add-one i))

-- one more item of a list that is made from the items of another
pub map_next : {A : Type 0} (f : ℕ → A) (made more : List A) (xs : List ℕ) (i : ℕ) (x : A) → i < length xs → made ≡ map f (take i xs) → x ≡ f (get_or xs i 0) → more ≡ made ++ x ∷ [] → more ≡ map f (take (i + 1) xs)
map_next f made more xs i x lt is here grown = grown ∙ (rw (is, here) (sym (go xs i lt) ∙ ap (λ n. map f (take n xs)) (sym (add-one i))))
  where
    go : (xs : List ℕ) (i : ℕ) → i < length xs → map f (take (suc i) xs) ≡ map f (take i xs) ++ f (get_or xs i 0) ∷ []
    go [] i lt = absurd (omega arith)
    go (y ∷ ys) zero lt = refl
    go (y ∷ ys) (suc i) lt = ap (λ l. f y ∷ l) (go ys i (omega arith))
