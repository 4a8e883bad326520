-- The words that spell numbers with a sign.
use Rattle.std.proofs.Common.{◌≡◌, ◌≢◌, ◌∙◌, ℕ, suc, ◌^◌, ◌<◌, List, ◌∷◌, get_or, drop, decimal, refl, ap, sym, arith, ℤ, pos, negsuc, w8, w64, FitsSigned}
use Rattle.std.specs.Int.{cast_signed}
use Rattle.std.proofs.Math.Facts.{sfits_to_z}
use Rattle.std.specs.Str.Parse.{AllDigits, digits_value}
use Rattle.std.proofs.lemmas.Str.Parse.{IsNumeralModel, numerals_by_value, tells_digits, not_in_digits}
use Rattle.std.proofs.lemmas.Fmt.{decimal_nonempty, decimal_injective, digits_decimal}
use Rattle.rmi_words.specs.CallWords.{SpellsNumber, number_word}

-- Digits begin with no tilde.
no_tilde : (n : ℕ) → n < 2 ^ 64 → get_or (decimal n) 0 0 ≢ 126
no_tilde n fits =
    let model : IsNumeralModel (AllDigits 10) (digits_value 10) = numerals_by_value (AllDigits 10) tells_digits in
    not_in_digits model (decimal n) 126 (digits_decimal model n fits) (λ h. omega (arith, h)) 0 (decimal_nonempty n fits)

-- What a tilde and digits spell.
pub negative_word : (word digits : List ℕ) (first : ℕ) → word ≡ first ∷ digits → get_or word 0 0 ≡ 126 → (n : ℤ) → SpellsNumber w64 n word
    → (m : ℕ) × (n ≡ negsuc m) × (m < 2 ^ 63) × (digits ≡ decimal (suc m))
negative_word word digits first is tilde (pos m) spells =
    let small : m < 2 ^ 63 = spells.0.sfits in
    absurd (no_tilde m (omega (arith, small)) (ap (λ (ds : List ℕ). get_or ds 0 0) (sym spells.1) ∙ tilde))
negative_word word digits first is tilde (negsuc m) spells = (m, refl, spells.0.sfits, ap (drop 1) (sym is ∙ spells.1))

-- A word spells at most one number.
pub same_signed : (word : List ℕ) (m n : ℤ) → FitsSigned w64 m → FitsSigned w64 n → word ≡ number_word m → word ≡ number_word n → m ≡ n
same_signed word (pos m) (pos n) fits_m fits_n is_m is_n =
    let small_m : m < 2 ^ 63 = fits_m.sfits in
    let small_n : n < 2 ^ 63 = fits_n.sfits in
    ap pos (decimal_injective m n (omega (arith, small_m)) (omega (arith, small_n)) (sym is_m ∙ is_n))
same_signed word (pos m) (negsuc n) fits_m fits_n is_m is_n =
    let small_m : m < 2 ^ 63 = fits_m.sfits in
    absurd (no_tilde m (omega (arith, small_m)) (ap (λ (ds : List ℕ). get_or ds 0 0) (sym is_m ∙ is_n)))
same_signed word (negsuc m) (pos n) fits_m fits_n is_m is_n =
    let small_n : n < 2 ^ 63 = fits_n.sfits in
    absurd (no_tilde n (omega (arith, small_n)) (ap (λ (ds : List ℕ). get_or ds 0 0) (sym is_n ∙ is_m)))
same_signed word (negsuc m) (negsuc n) fits_m fits_n is_m is_n =
    let small_m : m < 2 ^ 63 = fits_m.sfits in
    let small_n : n < 2 ^ 63 = fits_n.sfits in
    let same : suc m ≡ suc n = decimal_injective (suc m) (suc n) (omega (arith, small_m)) (omega (arith, small_n)) (ap (drop 1) (sym is_m ∙ is_n)) in
    ap negsuc (omega (arith, same))

-- The number of a byte's bits has 8 bits.
pub byte_fits : (bits : ℕ) → bits < 2 ^ 8 → FitsSigned w8 (cast_signed w8 bits)
byte_fits bits small = sfits_to_z (record { fits = small })
