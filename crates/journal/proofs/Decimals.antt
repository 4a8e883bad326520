-- The words that spell numbers.
use Rattle.std.proofs.Common.{◌≡◌, ◌≢◌, ℕ, suc, ◌^◌, ◌<◌, ◌≤◌, ◌⊎◌, inl, inr, List, [], ◌∷◌, ◌++◌, ◌+◌, length, get_or, take, drop, Option, Some, None, MatchOption, Result, Ok, Err, refl, ap, sym, ◌∙◌, arith, ℤ, pos, negsuc, w64}
use Rattle.std.specs.Char.{digit_value}
use Rattle.std.specs.Str.Parse.{AllDigits, digits_value, ParsesUnsigned}
use Rattle.std.specs.Fmt.{decimal, signed_decimal}
use Rattle.std.specs.Int.Signed.{mag}
use Rattle.std.proofs.lemmas.List.{length-take-le, take_more}
use Rattle.std.proofs.lemmas.Str.Parse.{IsNumeralModel, numerals_by_value, tells_digits, not_in_digits, parse_plain, digits_value_short}
use Rattle.std.proofs.lemmas.Fmt.{decimal_nonempty, length-decimal-le, decimal_digit, first_decimal, decimal_injective, signed_decimal_injective, digits_decimal, decimal-digits_value, parse-decimal}
use Rattle.std.proofs.lemmas.Result.{OkIff-at_ok}
use Rattle.std.proofs.str.Laws.{order}
use Rattle.journal.specs.Reading.{Finds}
use Rattle.journal.specs.Numbers.{BeginsPlainly}
use Rattle.journal.specs.Grammar.{SpellsBelow, SpellsSigned}

-- digits and their value
own : IsNumeralModel (AllDigits 10) (digits_value 10)
own = numerals_by_value (AllDigits 10) tells_digits

-- Digits have no sign among them.
pub no_plus : (n i : ℕ) → n < 2 ^ 64 → i < length (decimal n) → get_or (decimal n) i 0 ≢ 43
no_plus n i fits inside = not_in_digits own (decimal n) 43 (digits_decimal own n fits) (λ h. omega (arith, h)) i inside

-- A number's digits begin plainly.
pub begins_plainly : (n : ℕ) → n < 2 ^ 64 → BeginsPlainly (decimal n)
begins_plainly n fits = record {
  first = decimal_nonempty n fits;
  no_plus = no_plus n 0 fits (decimal_nonempty n fits);
  no_zero = by_size (order 0 n);
}
  where
    by_size : (0 < n) ⊎ (n ≤ 0) → get_or (decimal n) 0 0 ≡ 48 → length (decimal n) ≡ 1
    by_size (inl above) zero_first = absurd (omega (arith, first_decimal n above fits))
    by_size (inr none) zero_first = ap length (decimal_digit n (omega arith))

-- What `parse` reads of a word that begins plainly is what the word spells.
pub parsed : {E : Type 0} (word : List ℕ) (r : Result ℕ E) → ParsesUnsigned 64 10 word r → BeginsPlainly word → (n : ℕ) → r ≡ Ok n → SpellsBelow (2 ^ 64) n word
parsed word r parses plain n is =
    let known = OkIff-at_ok r (AllDigits 10 word × (0 < length word) × (digits_value 10 word < 2 ^ 64)) (digits_value 10 word) n (parse_plain own 64 word r parses plain.no_plus) is in
    (omega (arith, known.0.2, known.1), sym (decimal-digits_value own word known.0.0 known.0.1 plain.no_zero known.0.2) ∙ ap decimal (sym known.1))

-- A word of which `parse` reads nothing spells nothing.
pub unparsed : {E : Type 0} (word : List ℕ) (r : Result ℕ E) → ParsesUnsigned 64 10 word r → (e : E) → r ≡ Err e → (n : ℕ) → SpellsBelow (2 ^ 64) n word → ⊥
unparsed word r parses e is n spells =
    let read = parse-decimal 64 n word r spells.0 spells.0 spells.1 parses in cc

-- A word that spells a number below 10^19 has at most 19 digits.
pub spelled_short : (word : List ℕ) (n : ℕ) → SpellsBelow (10 ^ 19) n word → length word ≤ 19
spelled_short word n spells = rw spells.1 (length-decimal-le 19 n (omega arith) spells.0 (omega (arith, spells.0)))

-- Its bytes are digits.
pub spelled_digits : (word : List ℕ) (n : ℕ) → SpellsBelow (10 ^ 19) n word → AllDigits 10 word
spelled_digits word n spells = rw spells.1 (digits_decimal own n (omega (arith, spells.0)))

all_digits_append : (xs ys : List ℕ) → AllDigits 10 xs → AllDigits 10 ys → AllDigits 10 (xs ++ ys)
all_digits_append [] ys of_xs of_ys = of_ys
all_digits_append (x ∷ xs) ys of_xs of_ys = (of_xs.0, all_digits_append xs ys of_xs.1 of_ys)

-- One more digit.
pub all_digits_more : (ds : List ℕ) (i : ℕ) → i < length ds → AllDigits 10 (take i ds) → digit_value (get_or ds i 0) < 10 → AllDigits 10 (take (i + 1) ds)
all_digits_more ds i inside before here = rw (take_more ds i 0 inside) (all_digits_append (take i ds) _ before (here, tt))

-- The value of the digits before the last of at most 19.
pub value_short : (ds : List ℕ) (i : ℕ) → i < length ds → length ds ≤ 19 → AllDigits 10 (take i ds) → digits_value 10 (take i ds) < 10 ^ 18
value_short ds i inside short all = digits_value_short own (take i ds) 18 all (omega (arith, length-take-le i ds))

-- Digits that begin plainly spell their value.
pub digits_spell : (word : List ℕ) → BeginsPlainly word → AllDigits 10 word → length word ≤ 19 → SpellsBelow (10 ^ 19) (digits_value 10 word) word
digits_spell word plain all short =
    let below = digits_value_short own word 19 all short in
    (below, sym (decimal-digits_value own word all plain.first plain.no_zero (omega (arith, below))))

-- What digits are read as is what the word spells.
pub number_read : (word : List ℕ) (r : Option ℕ) → BeginsPlainly word → length word ≤ 19
    → MatchOption r (¬ AllDigits 10 word) (λ n. AllDigits 10 word × (n ≡ digits_value 10 word)) → Finds (SpellsBelow (10 ^ 19)) r word
number_read word None plain short told = λ n spells. told (spelled_digits word n spells)
number_read word (Some n) plain short told = rw told.1 (digits_spell word plain told.0 short)

-- Digits begin with no minus sign.
pub no_minus : (n : ℕ) → n < 2 ^ 64 → get_or (decimal n) 0 0 ≢ 45
no_minus n fits = not_in_digits own (decimal n) 45 (digits_decimal own n fits) (λ h. omega (arith, h)) 0 (decimal_nonempty n fits)

-- What a minus sign and digits spell.
pub negative : (digits : List ℕ) (n : ℤ) → SpellsSigned w64 n (45 ∷ digits) → (m : ℕ) × (n ≡ negsuc m) × (m < 2 ^ 63) × (digits ≡ decimal (suc m))
negative digits (pos m) spells = let small : m < 2 ^ 63 = spells.0.sfits in
    absurd (no_minus m (omega arith) (ap (λ (ds : List ℕ). get_or ds 0 0) (sym spells.1)))
negative digits (negsuc m) spells = (m, refl, spells.0.sfits, ap (drop 1) spells.1)

pub negative_word : (word digits : List ℕ) (first : ℕ) → word ≡ first ∷ digits → get_or word 0 0 ≡ 45 → (n : ℤ) → SpellsSigned w64 n word
    → (m : ℕ) × (n ≡ negsuc m) × (m < 2 ^ 63) × (digits ≡ decimal (suc m))
negative_word word digits first is minus n spells =
    let at_first : first ≡ 45 = ap (λ (ds : List ℕ). get_or ds 0 0) (sym is) ∙ minus in
    negative digits n (spells.0, ap (λ x. x ∷ digits) (sym at_first) ∙ sym is ∙ spells.1)

-- What a word without a minus sign spells.
pub positive : (word : List ℕ) (n : ℤ) → get_or word 0 0 ≢ 45 → SpellsSigned w64 n word → (m : ℕ) × (n ≡ pos m) × (m < 2 ^ 63) × (word ≡ decimal m)
positive word (pos m) plain spells = (m, refl, spells.0.sfits, spells.1)
positive word (negsuc m) plain spells = absurd (plain (ap (λ (ds : List ℕ). get_or ds 0 0) spells.1))

-- A word spells at most one number.
pub same_number : (word : List ℕ) (m n : ℕ) → m < 2 ^ 64 → n < 2 ^ 64 → word ≡ decimal m → word ≡ decimal n → m ≡ n
same_number word m n fits_m fits_n is_m is_n = decimal_injective m n fits_m fits_n (sym is_m ∙ is_n)

pub same_signed : (word : List ℕ) (m n : ℤ) → mag m < 2 ^ 63 → mag n < 2 ^ 63 → word ≡ signed_decimal m → word ≡ signed_decimal n → m ≡ n
same_signed word m n fits_m fits_n is_m is_n = signed_decimal_injective m n fits_m fits_n (sym is_m ∙ is_n)
