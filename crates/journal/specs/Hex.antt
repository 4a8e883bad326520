-- Bytes as hexadecimal digits in lower case, two each.
use Rattle.std.specs.Prelude.{◌≡◌, ℕ, ◌^◌, ◌<◌, ◌≤◌, false, List, ◌++◌, length, drop, flat_map}
use Rattle.std.specs.List.{AllByRecursion}
use Rattle.std.specs.Fmt.{digit_glyph}
use Rattle.history.specs.Texts.{hex_byte}

-- The byte is the digit of this value.
abbrev pub IsHexDigit : ℕ → ℕ → Type 0
IsHexDigit value byte = (value < 16) × (byte ≡ digit_glyph false value)

-- The first two digits are those of this byte.
abbrev pub BeginsWithByte : ℕ → List ℕ → Type 0
BeginsWithByte byte digits = (byte < 2 ^ 8) × (2 ≤ length digits) × (digits ≡ hex_byte byte ++ drop 2 digits)

-- The digits are those of these bytes.
abbrev pub SpellsBytes : List ℕ → List ℕ → Type 0
SpellsBytes bytes digits = AllByRecursion (λ b. b < 2 ^ 8) bytes × (digits ≡ flat_map hex_byte bytes)
