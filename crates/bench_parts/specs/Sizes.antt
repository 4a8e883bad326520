-- The number that a word spells.
use Rattle.std.specs.Prelude.{◌≡◌, ◌<◌, ◌^◌, ℕ, List}
use Rattle.std.specs.Str.Parse.{IsNumeral, digits_value, without_leading_plus}

-- A number below 2^32 in decimal digits, after a plus sign or none.
abbrev pub Spells : List ℕ → ℕ → Type 0
Spells word n = IsNumeral 10 (without_leading_plus word) × (n < 2 ^ 32) × (n ≡ digits_value 10 (without_leading_plus word))
