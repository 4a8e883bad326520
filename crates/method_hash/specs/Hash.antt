-- The hash of a method (Java RMI Specification, 8.3).
use Rattle.std.specs.Prelude.{ℕ, ℤ, List, ◌++◌, length, take}
use Rattle.std.specs.Int.{w16, w64, to_be_bytes, from_le_bytes, cast_signed}
use Rattle.sha1.specs.Sha1.{sha1}

-- The first eight bytes, as a signed number with its lowest byte first.
abbrev pub folded_hash : List ℕ → ℤ
folded_hash digest = cast_signed w64 (from_le_bytes w64 (take 8 digest))

-- The number of a method's text: its digest, of its length in 16 bits and its bytes, folded.
abbrev pub hash_of : List ℕ → ℤ
hash_of text = folded_hash (sha1 (to_be_bytes w16 (length text) ++ text))
