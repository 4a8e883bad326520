-- Units of names and their spellings.
use Rattle.std.proofs.Common.{◌≡◌, ◌≢◌, ℕ, ◌+◌, ◌/◌, ◌%◌, ◌^◌, ◌<◌, Bool, true, false, List, [], ◌∷◌, ◌++◌, length, drop, refl, ap, sym, ◌∙◌, arith, flat_map, append_assoc, length-append}
use Rattle.std.proofs.lemmas.Grind.{common_steps}
use Rattle.std.proofs.Math.Seq.{drop-append_seam}
use Rattle.std.specs.List.{AllByRecursion}
use Rattle.std.specs.Fmt.{digit_glyph}
use Rattle.history.specs.Texts.{hex_byte, is_plain_unit, unit_text}
use Rattle.journal.specs.Grammar.{IsName}
use Rattle.journal.specs.Units.{BeginsWithUnit, SpellsUnits}

-- ---- one unit

glyph_injective : (a b : ℕ) → a < 16 → b < 16 → digit_glyph false a ≡ digit_glyph false b → a ≡ b
glyph_injective a b small_a small_b same = grind (arith, common_steps)

-- Two bytes with the same digits before other bytes are the same.
pub hex_injective : (a b : ℕ) (xs ys : List ℕ) → a < 2 ^ 8 → b < 2 ^ 8 → hex_byte a ++ xs ≡ hex_byte b ++ ys → (a ≡ b) × (xs ≡ ys)
hex_injective a b xs ys small_a small_b same =
    let high : digit_glyph false (a / 16) ≡ digit_glyph false (b / 16) = cc in
    let low : digit_glyph false (a % 16) ≡ digit_glyph false (b % 16) = cc in
    let same_high = glyph_injective (a / 16) (b / 16) (omega arith) (omega arith) high in
    let same_low = glyph_injective (a % 16) (b % 16) (omega arith) (omega arith) low in
    (omega arith, cc)

pub plain_unit : (u : ℕ) → is_plain_unit u ≡ true → unit_text u ≡ u ∷ []
plain_unit u plain = rw plain refl

pub escaped_unit : (u : ℕ) → is_plain_unit u ≡ false → unit_text u ≡ 92 ∷ 117 ∷ (hex_byte (u / 256) ++ hex_byte (u % 256))
escaped_unit u escaped = rw escaped refl

plain_is_no_escape : (u : ℕ) → is_plain_unit u ≡ true → u ≢ 92
plain_is_no_escape u plain is = grind (arith, common_steps)

-- Spellings of units before other bytes are the same only of the same unit.
pub unit_injective : (u v : ℕ) (xs ys : List ℕ) → u < 2 ^ 16 → v < 2 ^ 16 → unit_text u ++ xs ≡ unit_text v ++ ys → (u ≡ v) × (xs ≡ ys)
unit_injective u v xs ys small_u small_v same = by_kind (is_plain_unit u) (is_plain_unit v) refl refl
  where
    by_kind : (p q : Bool) → is_plain_unit u ≡ p → is_plain_unit v ≡ q → (u ≡ v) × (xs ≡ ys)
    by_kind true true plain_u plain_v =
        let both = ap (λ (t : List ℕ). t ++ xs) (sym (plain_unit u plain_u)) ∙ same ∙ ap (λ (t : List ℕ). t ++ ys) (plain_unit v plain_v) in (cc, cc)
    by_kind true false plain_u escaped_v =
        let both = ap (λ (t : List ℕ). t ++ xs) (sym (plain_unit u plain_u)) ∙ same ∙ ap (λ (t : List ℕ). t ++ ys) (escaped_unit v escaped_v) in
        absurd (plain_is_no_escape u plain_u (cc))
    by_kind false true escaped_u plain_v =
        let both = ap (λ (t : List ℕ). t ++ xs) (sym (escaped_unit u escaped_u)) ∙ same ∙ ap (λ (t : List ℕ). t ++ ys) (plain_unit v plain_v) in
        absurd (plain_is_no_escape v plain_v (cc))
    by_kind false false escaped_u escaped_v =
        let both = ap (λ (t : List ℕ). t ++ xs) (sym (escaped_unit u escaped_u)) ∙ same ∙ ap (λ (t : List ℕ). t ++ ys) (escaped_unit v escaped_v) in
        let high = hex_injective (u / 256) (v / 256) (hex_byte (u % 256) ++ xs) (hex_byte (v % 256) ++ ys) (omega arith) (omega arith) (ap (drop 2) both) in
        let low = hex_injective (u % 256) (v % 256) xs ys (omega arith) (omega arith) high.1 in
        (omega (arith, high.0, low.0), low.1)

-- ---- a text of units

-- These units were read of the front of a text, and this is left.
pub record UnitsSoFar (text units rest : List ℕ) : Type 0 where
  pub are : IsName units
  pub text_is : text ≡ flat_map unit_text units ++ rest

-- The spelling of a unit is not empty.
pub unit_not_empty : (u : ℕ) (xs : List ℕ) → unit_text u ++ xs ≡ [] → ⊥
unit_not_empty u xs none = by_kind (is_plain_unit u) refl
  where
    by_kind : (p : Bool) → is_plain_unit u ≡ p → ⊥
    by_kind true plain = let both = ap (λ (t : List ℕ). t ++ xs) (sym (plain_unit u plain)) ∙ none in cc
    by_kind false escaped = let both = ap (λ (t : List ℕ). t ++ xs) (sym (escaped_unit u escaped)) ∙ none in cc

-- Other units, whose spellings are the rest.
pub record UnitsLeft (units all rest : List ℕ) : Type 0 where
  pub more : List ℕ
  pub fit : AllByRecursion (λ u. u < 2 ^ 16) more
  pub text_is : rest ≡ flat_map unit_text more
  pub count : length all ≡ length units + length more

-- What follows the spellings of some units of a text is the spellings of the others.
pub units_after : (units all : List ℕ) (rest : List ℕ) → AllByRecursion (λ u. u < 2 ^ 16) units → AllByRecursion (λ u. u < 2 ^ 16) all
    → flat_map unit_text units ++ rest ≡ flat_map unit_text all → UnitsLeft units all rest
units_after [] all rest fit_units fit_all is = record { more = all; fit = fit_all; text_is = is; count = omega arith }
units_after (u ∷ units) [] rest fit_units fit_all is =
    absurd (unit_not_empty u (flat_map unit_text units ++ rest) (sym (append_assoc (unit_text u) (flat_map unit_text units) rest) ∙ is))
units_after (u ∷ units) (v ∷ all) rest fit_units fit_all is =
    let same = unit_injective u v (flat_map unit_text units ++ rest) (flat_map unit_text all) fit_units.0 fit_all.0 (sym (append_assoc (unit_text u) (flat_map unit_text units) rest) ∙ is) in
    let left = units_after units all rest fit_units.1 fit_all.1 same.1 in
    record { more = left.more; fit = left.fit; text_is = left.text_is; count = omega (arith, left.count) }

-- A text that goes on after 255 units spells no name's units.
pub too_many : (text units rest : List ℕ) → UnitsSoFar text units rest → (rest ≡ [] → ⊥) → length units ≡ 255 → (all : List ℕ) → SpellsUnits all text → ⊥
too_many text units rest so_far goes_on full all spells =
    by_more (units_after units all rest so_far.are.units spells.0.units (sym so_far.text_is ∙ spells.1))
  where
    by_more : UnitsLeft units all rest → ⊥
    by_more left = by_list left.more left.text_is left.count
      where
        by_list : (more : List ℕ) → rest ≡ flat_map unit_text more → length all ≡ length units + length more → ⊥
        by_list [] is count = goes_on is
        by_list (u ∷ more) is count = omega (arith, spells.0.short)

-- A text that goes on with no unit spells no name's units.
pub no_units : (text units rest : List ℕ) → UnitsSoFar text units rest → (rest ≡ [] → ⊥) → ((u len : ℕ) → BeginsWithUnit u len rest → ⊥) → (all : List ℕ) → SpellsUnits all text → ⊥
no_units text units rest so_far goes_on none all spells =
    by_more (units_after units all rest so_far.are.units spells.0.units (sym so_far.text_is ∙ spells.1))
  where
    begins : (u : ℕ) (more : List ℕ) → u < 2 ^ 16 → rest ≡ unit_text u ++ more → BeginsWithUnit u (length (unit_text u)) rest
    begins u more fits is = record {
      fits = fits;
      len_is = refl;
      long = let counted = ap length is ∙ length-append (unit_text u) more in omega arith;
      text_is = is ∙ ap (λ (xs : List ℕ). unit_text u ++ xs) (sym (ap (drop (length (unit_text u))) is ∙ drop-append_seam (unit_text u) more));
    }

    by_list : (more : List ℕ) → rest ≡ flat_map unit_text more → AllByRecursion (λ u. u < 2 ^ 16) more → ⊥
    by_list [] is fit = goes_on is
    by_list (u ∷ more) is fit = none u (length (unit_text u)) (begins u (flat_map unit_text more) fit.0 is)

    by_more : UnitsLeft units all rest → ⊥
    by_more left = by_list left.more left.text_is left.fit
