-- Signed numbers and truth values from bytes.
use Rattle.std.specs.Prelude.{ℤ, Bool}
use Rattle.std.specs.Int.{Width, cast_signed}
use Rattle.stream_grammar.specs.Reading.{Step, plain, map_step, byte_at, number_at, is_true}

abbrev pub signed_at : Width → Step ℤ
signed_at w = map_step (λ k. cast_signed w k) (plain (number_at w))

abbrev pub truth_at : Step Bool
truth_at = map_step is_true (plain byte_at)
