-- Units of names as bytes.
use Rattle.std.specs.Prelude.{◌≡◌, ℕ, ◌/◌, ◌%◌, ◌^◌, ◌<◌, ◌≤◌, false, List, ◌∷◌, ◌++◌, length, drop, flat_map}
use Rattle.history.specs.Texts.{hex_byte, is_plain_unit, unit_text}
use Rattle.journal.specs.Grammar.{IsName}

-- The text begins with the escape of this unit, which does not stand for itself.
pub record BeginsWithEscape (unit : ℕ) (text : List ℕ) : Type 0 where
  pub fits : unit < 2 ^ 16
  pub escaped : is_plain_unit unit ≡ false
  pub long : 6 ≤ length text
  pub text_is : text ≡ 0x5C ∷ 0x75 ∷ (hex_byte (unit / 256) ++ hex_byte (unit % 256) ++ drop 6 text)

-- The text begins with the spelling of this unit, of so many bytes.
pub record BeginsWithUnit (unit len : ℕ) (text : List ℕ) : Type 0 where
  pub fits : unit < 2 ^ 16
  pub len_is : len ≡ length (unit_text unit)
  pub long : len ≤ length text
  pub text_is : text ≡ unit_text unit ++ drop len text

-- The text is the spellings of these units, which are at most 255.
abbrev pub SpellsUnits : List ℕ → List ℕ → Type 0
SpellsUnits units text = IsName units × (text ≡ flat_map unit_text units)
