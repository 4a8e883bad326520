-- Lists: every item, and some item.
use Rattle.std.proofs.Common.{◌≡◌, inl, inr, List, [], ◌∷◌, ◌++◌, refl, cond, subst}
use Rattle.std.specs.Prelude.{Bool, true, false, filter, ℕ, zero, suc, Some}
use Rattle.std.specs.List.{list_any, AllByRecursion}
use Rattle.std.proofs.lemmas.Bool.{or_cases, or_left, or_right}
use Rattle.history.proofs.ListLemmas.{every-always}
use Rattle.lease_world.specs.World.{nth}

-- Where one item passes a test, and each passes another by it.
pub any-with : {X : Type 0} (P : X → Type 0) (p q : X → Bool) → ((x : X) → P x → p x ≡ true → q x ≡ true) → (xs : List X) → AllByRecursion P xs → list_any p xs ≡ true → list_any q xs ≡ true
any-with P p q f [] e h = h
any-with P p q f (x ∷ xs) e h = elim (or_cases (p x) (list_any p xs) h) [
  | inl a ↦ or_left (q x) (list_any q xs) (f x e.0 a)
  | inr b ↦ or_right (q x) (list_any q xs) (any-with P p q f xs e.1 b)
]

pub any-weaker : {X : Type 0} (p q : X → Bool) → ((x : X) → p x ≡ true → q x ≡ true) → (xs : List X) → list_any p xs ≡ true → list_any q xs ≡ true
any-weaker p q f xs h = any-with (λ x. Unit {0}) p q (λ x u a. f x a) xs (every-always (λ x. Unit {0}) (λ x. tt) xs) h

-- Where an item passes a test, and that test is absurd of each.
pub any-never : {X : Type 0} (P : X → Type 0) (p : X → Bool) → ((x : X) → P x → p x ≡ true → ⊥) → (xs : List X) → AllByRecursion P xs → list_any p xs ≡ true → ⊥
any-never P p f [] e h = cc
any-never P p f (x ∷ xs) e h = elim (or_cases (p x) (list_any p xs) h) [ inl a ↦ f x e.0 a | inr b ↦ any-never P p f xs e.1 b ]

-- What follows from an item that passes a test.
pub any-then : {X : Type 0} (p : X → Bool) (G : Type 0) → ((x : X) → p x ≡ true → G) → (xs : List X) → list_any p xs ≡ true → G
any-then p G f [] h = absurd (cc)
any-then p G f (x ∷ xs) h = elim (or_cases (p x) (list_any p xs) h) [ inl a ↦ f x a | inr b ↦ any-then p G f xs b ]

-- Each item that passes a test, of a list where each has something by that test.
pub filter-every : {X : Type 0} (p : X → Bool) (P : X → Type 0) (xs : List X) → AllByRecursion (λ x. p x ≡ true → P x) xs → AllByRecursion P (filter p xs)
filter-every p P [] e = tt
filter-every p P (x ∷ xs) e = go (p x) refl (filter-every p P xs e.1)
  where
    go : (b : Bool) → p x ≡ b → AllByRecursion P (filter p xs) → AllByRecursion P (cond b (x ∷ filter p xs) (filter p xs))
    go true h r = (e.0 h, r)
    go false h r = r

-- Each of every pair of items of two lists, from the first list on, or from the second.
heads : {X Y : Type 0} (A : X → Type 0) (R : X → Y → Type 0) (y : Y) (ys : List Y) (xs : List X) → AllByRecursion (λ x. A x → AllByRecursion (R x) (y ∷ ys)) xs → AllByRecursion (λ x. A x → R x y) xs
heads A R y ys [] e = tt
heads A R y ys (x ∷ xs) e = ((λ a. (e.0 a).0), heads A R y ys xs e.1)

tails : {X Y : Type 0} (A : X → Type 0) (R : X → Y → Type 0) (y : Y) (ys : List Y) (xs : List X) → AllByRecursion (λ x. A x → AllByRecursion (R x) (y ∷ ys)) xs → AllByRecursion (λ x. A x → AllByRecursion (R x) ys) xs
tails A R y ys [] e = tt
tails A R y ys (x ∷ xs) e = ((λ a. (e.0 a).1), tails A R y ys xs e.1)

pub swap-every : {X Y : Type 0} (A : X → Type 0) (R : X → Y → Type 0) (xs : List X) (ys : List Y) → AllByRecursion (λ x. A x → AllByRecursion (R x) ys) xs →
    AllByRecursion (λ y. AllByRecursion (λ x. A x → R x y) xs) ys
swap-every A R xs [] e = tt
swap-every A R xs (y ∷ ys) e = (heads A R y ys xs e, swap-every A R xs ys (tails A R y ys xs e))

-- ---- an item by its position

pub nth-every : {X : Type 0} (P : X → Type 0) (xs : List X) (n : ℕ) (x : X) → AllByRecursion P xs → nth xs n ≡ Some x → P x
nth-every P [] n x e h = absurd (cc)
nth-every P (y ∷ xs) zero x e h = let same : y ≡ x = cc in subst P same e.0
nth-every P (y ∷ xs) (suc n) x e h = nth-every P xs n x e.1 h

pub nth-append : {X : Type 0} (xs ys : List X) (n : ℕ) (x : X) → nth xs n ≡ Some x → nth (xs ++ ys) n ≡ Some x
nth-append [] ys n x h = absurd (cc)
nth-append (y ∷ xs) ys zero x h = h
nth-append (y ∷ xs) ys (suc n) x h = nth-append xs ys n x h
