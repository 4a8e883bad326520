-- Digits that spell bytes.
use Rattle.std.proofs.Common.{◌≡◌, ℕ, ◌^◌, ◌<◌, List, [], ◌∷◌, ◌++◌, length, drop, ap, sym, ◌∙◌, arith, flat_map}
use Rattle.std.specs.List.{AllByRecursion}
use Rattle.history.specs.Texts.{hex_byte}
use Rattle.journal.specs.Hex.{BeginsWithByte, SpellsBytes}

-- What follows the digits of some bytes of a text of bytes is the digits of others.
pub digits_after : (bytes all : List ℕ) (rest : List ℕ) → flat_map hex_byte bytes ++ rest ≡ flat_map hex_byte all → AllByRecursion (λ b. b < 2 ^ 8) all
    → (more : List ℕ) × SpellsBytes more rest
digits_after [] all rest is fit = (all, (fit, is))
digits_after (b ∷ bytes) [] rest is fit = absurd (cc)
digits_after (b ∷ bytes) (x ∷ all) rest is fit = digits_after bytes all rest (ap (drop 2) is) fit.1

-- Digits that go on and don't begin with a byte spell no bytes.
pub no_bytes : (bytes digits rest : List ℕ) → digits ≡ flat_map hex_byte bytes ++ rest → (rest ≡ [] → ⊥) → ((b : ℕ) → BeginsWithByte b rest → ⊥)
    → (all : List ℕ) → SpellsBytes all digits → ⊥
no_bytes bytes digits rest is goes_on none all spells = by_more (digits_after bytes all rest (sym is ∙ spells.1) spells.0)
  where
    by_more : (more : List ℕ) × SpellsBytes more rest → ⊥
    by_more ([], spelled) = goes_on spelled.1
    by_more (m ∷ more, spelled) = none m (spelled.0.0, omega (arith, ap length spelled.1), spelled.1 ∙ ap (λ (xs : List ℕ). hex_byte m ++ xs) (sym (ap (drop 2) spelled.1)))
