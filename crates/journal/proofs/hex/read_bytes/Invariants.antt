use Rattle.std.proofs.Common.{◌≡◌, ◌^◌, ◌<◌, ◌++◌, length, flat_map}
use Rattle.std.specs.List.{AllByRecursion}
use Rattle.history.specs.Texts.{hex_byte}
use Rattle.journal.proofs.hex.read_bytes.Given as goal

-- The digits are those of the bytes so far, and the rest.
abbrev pub invariant-loop-rest : goal.invariant-loop-rest
invariant-loop-rest l = record { bytes : AllByRecursion (λ b. b < 2 ^ 8) l.bytes; digits : l.digits ≡ flat_map hex_byte l.bytes ++ l.rest }

abbrev pub decreases-loop-rest : goal.decreases-loop-rest
decreases-loop-rest l = length l.rest
