-- The first byte of a number.
use Rattle.std.specs.Prelude.{◌≡◌, ◌≢◌, ℕ, ◌<◌, List, length, slice_index}

-- There is a first byte; it is no plus sign, and no zero before further bytes.
pub record BeginsPlainly (word : List ℕ) : Type 0 where
  pub first : 0 < length word
  pub no_plus : slice_index word 0 ≢ 43
  pub no_zero : slice_index word 0 ≡ 48 → length word ≡ 1
