-- Items by their positions.
use Rattle.std.proofs.Common.{◌≡◌, ℕ, suc, zero, ◌<◌, ◌≤◌, List, [], ◌∷◌, ◌++◌, length, get_or, map, set, refl, ap, sym, ◌∙◌, arith, ◌⊎◌, inl, inr}
use Rattle.std.specs.Prelude.{false, Option, Some, None, option_map, ◌==◌}
use Rattle.std.proofs.lemmas.Bool.{true≢false}
use Rattle.std.proofs.lemmas.Bool.Decides.{Decides-eqb}
use Rattle.lease_world.specs.World.{nth}

pub nth-get : {X : Type 0} (xs : List X) (n : ℕ) (d : X) → n < length xs → nth xs n ≡ Some (get_or xs n d)
nth-get [] n d l = absurd (omega arith)
nth-get (x ∷ xs) zero d l = refl
nth-get (x ∷ xs) (suc n) d l = nth-get xs n d (omega arith)

pub nth-none : {X : Type 0} (xs : List X) (n : ℕ) → length xs ≤ n → nth xs n ≡ None
nth-none [] n l = refl
nth-none (x ∷ xs) zero l = absurd (omega arith)
nth-none (x ∷ xs) (suc n) l = nth-none xs n (omega arith)

pub nth-within : {X : Type 0} (xs : List X) (n : ℕ) (x : X) → nth xs n ≡ Some x → n < length xs
nth-within [] n x h = absurd (cc)
nth-within (y ∷ xs) zero x h = omega arith
nth-within (y ∷ xs) (suc n) x h = let l = nth-within xs n x h in omega arith

pub nth-map : {X Y : Type 0} (f : X → Y) (xs : List X) (n : ℕ) → nth (map f xs) n ≡ option_map f (nth xs n)
nth-map f [] n = refl
nth-map f (x ∷ xs) zero = refl
nth-map f (x ∷ xs) (suc n) = nth-map f xs n

pub nth-set-same : {X : Type 0} (xs : List X) (n : ℕ) (q : X) → n < length xs → nth (set xs n q) n ≡ Some q
nth-set-same [] n q l = absurd (omega arith)
nth-set-same (x ∷ xs) zero q l = refl
nth-set-same (x ∷ xs) (suc n) q l = nth-set-same xs n q (omega arith)

pub nth-set-other : {X : Type 0} (xs : List X) (n k : ℕ) (q : X) → (n ≡ k → ⊥) → nth (set xs n q) k ≡ nth xs k
nth-set-other [] n k q f = refl
nth-set-other (x ∷ xs) zero zero q f = absurd (f refl)
nth-set-other (x ∷ xs) zero (suc k) q f = refl
nth-set-other (x ∷ xs) (suc n) zero q f = refl
nth-set-other (x ∷ xs) (suc n) (suc k) q f = nth-set-other xs n k q (λ e. f (ap suc e))

-- Two numbers that a test tells apart.
pub are-apart : (n k : ℕ) → (n == k) ≡ false → n ≡ k → ⊥
are-apart n k h e = true≢false (sym ((Decides-eqb n k).1 e) ∙ h)

pub length-set : {X : Type 0} (xs : List X) (n : ℕ) (q : X) → length (set xs n q) ≡ length xs
length-set [] n q = refl
length-set (x ∷ xs) zero q = refl
length-set (x ∷ xs) (suc n) q = ap suc (length-set xs n q)

-- An item in place of another of which a function says the same.
pub map-set-same : {X Y : Type 0} (f : X → Y) (xs : List X) (n : ℕ) (x q : X) → nth xs n ≡ Some x → f q ≡ f x → map f (set xs n q) ≡ map f xs
map-set-same f [] n x q h e = refl
map-set-same f (y ∷ xs) zero x q h e = let same : y ≡ x = cc in ap (λ z. z ∷ map f xs) (e ∙ ap f (sym same))
map-set-same f (y ∷ xs) (suc n) x q h e = ap (λ l. f y ∷ l) (map-set-same f xs n x q h e)

-- An item more, of which a function says nothing.
pub nth-last-none : {X Y : Type 0} (f : Option X → Option Y) (xs : List X) (x : X) (n : ℕ) → f None ≡ None → f (Some x) ≡ None → f (nth (xs ++ x ∷ []) n) ≡ f (nth xs n)
nth-last-none f [] x zero e h = h ∙ sym e
nth-last-none f [] x (suc n) e h = refl
nth-last-none f (y ∷ xs) x zero e h = refl
nth-last-none f (y ∷ xs) x (suc n) e h = nth-last-none f xs x n e h

-- An item of a list with one more.
pub nth-either : {X : Type 0} (xs : List X) (y x : X) (n : ℕ) → nth (xs ++ y ∷ []) n ≡ Some x → (nth xs n ≡ Some x) ⊎ ((n ≡ length xs) × (y ≡ x))
nth-either [] y x zero h = inr (refl, cc)
nth-either [] y x (suc n) h = absurd (cc)
nth-either (z ∷ xs) y x zero h = inl h
nth-either (z ∷ xs) y x (suc n) h = elim (nth-either xs y x n h) [ inl a ↦ inl a | inr b ↦ inr (ap suc b.0, b.1) ]

-- An item in its own place.
pub set-here : {X : Type 0} (xs : List X) (n : ℕ) (x : X) → nth xs n ≡ Some x → set xs n x ≡ xs
set-here [] n x h = refl
set-here (y ∷ xs) zero x h = let same : y ≡ x = cc in ap (λ z. z ∷ xs) (sym same)
set-here (y ∷ xs) (suc n) x h = ap (λ l. y ∷ l) (set-here xs n x h)

-- An item that was read at an index.
pub at-index : {X : Type 0} (xs ys : List X) (k : ℕ) (x : X) → xs ≡ ys → k < length xs → x ≡ get_or xs k x → nth ys k ≡ Some x
at-index xs ys k x e l g = ap (λ zs. nth zs k) (sym e) ∙ nth-get xs k x l ∙ ap (λ z. Some z) (sym g)
