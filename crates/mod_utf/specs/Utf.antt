-- Modified UTF (Java Object Serialization Specification, 6.2): a text's units of 16 bits, and the one spelling of each.
use Rattle.std.specs.Prelude.{◌≡◌, ℕ, ◌+◌, ◌*◌, ◌/◌, ◌%◌, ◌<◌, ◌≤◌, ◌⊎◌, nat_lt, ◌&&◌, List, [], ◌∷◌, ◌++◌, if◌then◌else◌}
use Rattle.std.specs.List.{flat_map}

-- 0xxxxxxx spells the unit x, from 1 to 7F.
pub record IsOneByte (unit : ℕ) (bytes : List ℕ) : Type 0 where
  pub above : 1 ≤ unit
  pub below : unit < 0x80
  pub spelled : bytes ≡ unit ∷ []

-- 110xxxxx 10yyyyyy spells the unit xy, which is 0 or from 80 to 7FF.
pub record IsTwoBytes (unit : ℕ) (bytes : List ℕ) : Type 0 where
  pub high : ℕ
  pub low : ℕ
  pub high_bits : high < 32
  pub low_bits : low < 64
  pub is : unit ≡ 64 * high + low
  pub not_shorter : (unit ≡ 0) ⊎ (0x80 ≤ unit)
  pub spelled : bytes ≡ (0xC0 + high) ∷ (0x80 + low) ∷ []

-- 1110xxxx 10yyyyyy 10zzzzzz spells the unit xyz, from 800 to FFFF.
pub record IsThreeBytes (unit : ℕ) (bytes : List ℕ) : Type 0 where
  pub high : ℕ
  pub middle : ℕ
  pub low : ℕ
  pub high_bits : high < 16
  pub middle_bits : middle < 64
  pub low_bits : low < 64
  pub is : unit ≡ 4096 * high + 64 * middle + low
  pub not_shorter : 0x800 ≤ unit
  pub spelled : bytes ≡ (0xE0 + high) ∷ (0x80 + middle) ∷ (0x80 + low) ∷ []

-- These bytes spell the unit.
abbrev pub SpellsUnit : ℕ → List ℕ → Type 0
SpellsUnit unit bytes = IsOneByte unit bytes ⊎ (IsTwoBytes unit bytes ⊎ IsThreeBytes unit bytes)

-- These bytes spell the text: they are spellings of its units, one after the other.
abbrev pub Utf : List ℕ → List ℕ → Type 0
Utf [] bytes = bytes ≡ []
Utf (unit ∷ units) bytes = (first : List ℕ) × (rest : List ℕ) × SpellsUnit unit first × Utf units rest × (bytes ≡ first ++ rest)

-- The spelling of a unit: 0001 to 007F take one byte, 0000 and 0080 to 07FF two, the others three.
abbrev pub unit_bytes : ℕ → List ℕ
unit_bytes u =
    if nat_lt 0 u && nat_lt u 128 then u ∷ []
    else (if nat_lt u 2048 then (192 + u / 64) ∷ (128 + u % 64) ∷ []
    else (224 + u / 4096) ∷ (128 + u / 64 % 64) ∷ (128 + u % 64) ∷ [])

-- The spelling of a text. That it is one, and the only one, are laws of `proofs/Spelling`.
abbrev pub utf : List ℕ → List ℕ
utf units = flat_map unit_bytes units

-- The byte of an ASCII character, but the zero: it spells the unit of its own number.
abbrev pub SpellsItself : ℕ → Type 0
SpellsItself byte = (1 ≤ byte) × (byte < 0x80)
