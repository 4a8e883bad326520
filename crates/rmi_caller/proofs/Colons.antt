-- The place of a text's first colon, unit by unit.
use Rattle.std.proofs.Common.{◌≡◌, ◌≢◌, ◌≤◌, ◌<◌, ◌+◌, ℕ, suc, List, ◌∷◌, length, drop, get_or, refl, ap, arith, inl, inr, add-one, drop-cons}
use Rattle.std.proofs.lemmas.Bool.Decides.{eqb_tells}
use Rattle.std.proofs.lemmas.List.{drop_all}
use Rattle.rmi_caller.specs.Exceptions.{colon_at}

-- what is left from a place on
here : (us : List ℕ) (i : ℕ) → i < length us → drop i us ≡ get_or us i 0 ∷ drop (i + 1) us
here us i less = rw (add-one) (drop-cons us i 0 less)

-- no colon begins it
none_first : (u : ℕ) (us : List ℕ) → u ≢ 0x3A → colon_at (u ∷ us) ≡ suc (colon_at us)
unfolding colon_at
none_first u us apart = elim (eqb_tells u 0x3A) [
  | inl same ↦ absurd (apart same.1)
  | inr other ↦ rw (other.0) refl
]

-- a colon begins it
one_first : (u : ℕ) (us : List ℕ) → u ≡ 0x3A → colon_at (u ∷ us) ≡ 0
unfolding colon_at
one_first u us is = rw is refl

pub past : (us : List ℕ) (i : ℕ) → i < length us → get_or us i 0 ≢ 0x3A → colon_at us ≡ i + colon_at (drop i us) → colon_at us ≡ (i + 1) + colon_at (drop (i + 1) us)
past us i less none so = omega (arith, so, ap colon_at (here us i less), none_first (get_or us i 0) (drop (i + 1) us) none)

pub found : (us : List ℕ) (i : ℕ) → i < length us → get_or us i 0 ≡ 0x3A → colon_at us ≡ i + colon_at (drop i us) → i ≡ colon_at us
found us i less some so = omega (arith, so, ap colon_at (here us i less), one_first (get_or us i 0) (drop (i + 1) us) some)

-- none was found
pub ended : (us : List ℕ) (i : ℕ) → length us ≤ i → i ≤ length us → colon_at us ≡ i + colon_at (drop i us) → length us ≡ colon_at us
unfolding colon_at
ended us i past few so =
    let none : colon_at (drop i us) ≡ 0 = ap colon_at (drop_all i us past) in
    omega (arith, so, none, past, few)
