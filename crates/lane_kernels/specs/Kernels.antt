-- What the kernels give, number by number.
use Rattle.std.specs.Prelude.{ℕ, zero, suc, ℤ, Bool, nat_le, ◌&&◌, List, [], ◌∷◌, take, drop}
use Rattle.std.specs.Int.{Width, byte_len, from_be_bytes, cast_signed}

-- The byte of an ASCII character other than zero: from 01 to 7F.
abbrev pub is_plain : ℕ → Bool
is_plain byte = nat_le 1 byte && nat_le byte 0x7F

-- A deadline has passed.
abbrev pub is_due : ℕ → ℕ → Bool
is_due now deadline = nat_le deadline now

-- The signed number that bytes spell, the highest first.
abbrev pub signed_word : Width → List ℕ → ℤ
signed_word w bytes = cast_signed w (from_be_bytes w bytes)

-- The first so many signed numbers that bytes spell, one after the other.
unfoldable pub signed_words : Width → ℕ → List ℕ → List ℤ
signed_words w zero bytes = []
signed_words w (suc n) bytes = signed_word w (take (byte_len w) bytes) ∷ signed_words w n (drop (byte_len w) bytes)
