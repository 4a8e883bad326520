-- Identifiers drawn one after the other.
use Rattle.std.specs.Prelude.{ℕ, ℤ, pos, negsuc, ◌+ℤ◌, ◌/◌, ◌%◌}
use Rattle.object_ids.specs.declared.ids.Uid.{Uid}

-- A drawing: the machine's number, the moment at which it began, and how many identifiers it has given.
pub record Draws : Type 0 where
  pub unique : ℤ
  pub time : ℤ
  pub drawn : ℕ

-- The moment of the k-th identifier, from 0: each moment has 65,536 of them.
abbrev pub moment_drawn : ℤ → ℕ → ℤ
moment_drawn time k = time +ℤ pos (k / 65536)

-- The k-th identifier, from 0. Of one moment the counts go from -32,768 to 32,767.
abbrev pub uid_drawn : ℤ → ℤ → ℕ → Uid
uid_drawn unique time k = record { unique = unique; time = moment_drawn time k; count = pos (k % 65536) +ℤ negsuc 32767 }
