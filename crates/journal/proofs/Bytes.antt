-- Which bytes stand in a text.
use Rattle.std.proofs.Common.{◌≢◌, ℕ, suc, ◌^◌, ◌<◌, ◌≤◌, ◌⊎◌, inl, inr, List, [], ◌∷◌, ◌++◌, sym, arith, ℤ, pos, negsuc}
use Rattle.std.proofs.lemmas.Bool.{ne_eqb}
use Rattle.std.specs.List.{AllByRecursion}
use Rattle.std.specs.Fmt.{decimal, signed_decimal}
use Rattle.std.specs.Str.Parse.{AllDigits}
use Rattle.std.specs.Int.Signed.{mag}
use Rattle.std.proofs.lemmas.Str.Parse.{digit_from_value}
use Rattle.std.proofs.lemmas.Fmt.{decimal_is_IsNumeral}
use Rattle.journal.specs.Parts.{Lacks}
use Rattle.journal.specs.Grammar.{SpellsBelow}

-- Each byte is from `low` to `high`.
abbrev pub Within : ℕ → ℕ → List ℕ → Type 0
Within low high bytes = AllByRecursion (λ b. (low ≤ b) × (b ≤ high)) bytes

pub within_append : (low high : ℕ) (xs ys : List ℕ) → Within low high xs → Within low high ys → Within low high (xs ++ ys)
within_append low high [] ys of_xs of_ys = of_ys
within_append low high (x ∷ xs) ys of_xs of_ys = (of_xs.0, within_append low high xs ys of_xs.1 of_ys)

pub within_wider : (low high l h : ℕ) → l ≤ low → high ≤ h → (xs : List ℕ) → Within low high xs → Within l h xs
within_wider low high l h below above [] of_xs = tt
within_wider low high l h below above (x ∷ xs) of_xs = ((omega (arith, of_xs.0), omega (arith, of_xs.0)), within_wider low high l h below above xs of_xs.1)

-- A byte that is not within these is not among them.
pub within_lacks : (low high c : ℕ) → (c < low) ⊎ (high < c) → (xs : List ℕ) → Within low high xs → Lacks c xs
within_lacks low high c out [] of_xs = tt
within_lacks low high c (inl out) (x ∷ xs) of_xs = (ne_eqb x c (λ same. omega (arith, of_xs.0, same)), within_lacks low high c (inl out) xs of_xs.1)
within_lacks low high c (inr out) (x ∷ xs) of_xs = (ne_eqb x c (λ same. omega (arith, of_xs.0, same)), within_lacks low high c (inr out) xs of_xs.1)

pub lacks_append : (c : ℕ) (xs ys : List ℕ) → Lacks c xs → Lacks c ys → Lacks c (xs ++ ys)
lacks_append c [] ys of_xs of_ys = of_ys
lacks_append c (x ∷ xs) ys of_xs of_ys = (of_xs.0, lacks_append c xs ys of_xs.1 of_ys)

digits_within : (digits : List ℕ) → AllDigits 10 digits → Within 48 57 digits
digits_within [] all = tt
digits_within (d ∷ digits) all = let range = digit_from_value d all.0 in ((omega (arith, range), omega (arith, range)), digits_within digits all.1)

-- ---- numbers

pub decimal_within : (n : ℕ) → n < 2 ^ 64 → Within 48 57 (decimal n)
decimal_within n fits = digits_within (decimal n) (decimal_is_IsNumeral n fits).0.1

pub signed_within : (z : ℤ) → mag z < 2 ^ 63 → Within 45 57 (signed_decimal z)
signed_within (pos n) fits = within_wider 48 57 45 57 (omega arith) (omega arith) (decimal n) (decimal_within n (omega arith))
signed_within (negsuc n) fits = ((omega arith, omega arith), within_wider 48 57 45 57 (omega arith) (omega arith) (decimal (suc n)) (decimal_within (suc n) (omega arith)))

-- A signed number has no byte but digits and a minus sign.
pub signed_lacks : (c : ℕ) → c ≢ 45 → (c < 48) ⊎ (57 < c) → (z : ℤ) → mag z < 2 ^ 63 → Lacks c (signed_decimal z)
signed_lacks c no_minus out (pos n) fits = within_lacks 48 57 c out (decimal n) (decimal_within n (omega arith))
signed_lacks c no_minus out (negsuc n) fits = (ne_eqb 45 c (λ same. no_minus (sym same)), within_lacks 48 57 c out (decimal (suc n)) (decimal_within (suc n) (omega arith)))

pub number_within : (limit n : ℕ) (word : List ℕ) → limit ≤ 2 ^ 64 → SpellsBelow limit n word → Within 48 57 word
number_within limit n word small spells = rw spells.1 (decimal_within n (omega (arith, spells.0)))

-- A list of numbers is parted at its commas alone.
pub number_lacks_comma : (limit n : ℕ) (word : List ℕ) → limit ≤ 2 ^ 64 → SpellsBelow limit n word → Lacks 44 word
number_lacks_comma limit n word small spells = within_lacks 48 57 44 (inl (omega arith)) word (number_within limit n word small spells)
