-- What codes begin in the outermost place: blocks, and what is none.
use Rattle.std.specs.Prelude.{ℕ, zero, suc, ◌-◌, ◌^◌, Bool, true, false, nat_eq, List, length, Ok, Err, if◌then◌else◌}
use Rattle.std.specs.Int.{w32}
use Rattle.ser_read.specs.declared.block.Head.{Head}
use Rattle.ser_read.specs.declared.block.Head.TheVariants.{Block, Code}
use Rattle.stream_grammar.specs.Reading.{◌>>=◌, Plain, byte_at, size_at, short}

-- behind its code, which stands at this position
unfoldable pub one_head : ℕ → ℕ → ℕ → List ℕ → Plain Head
one_head end code at bs =
    if nat_eq code 0x77 then (byte_at bs >>= λ n. Ok (Block n.0, n.1)) else
    (if nat_eq code 0x7A then (size_at end w32 (2 ^ 31) bs >>= λ n. Ok (Block n.0, n.1)) else Ok (Code code at, bs))

unfoldable pub any_head : ℕ → List ℕ → Plain Head
any_head end bs = byte_at bs >>= λ c. one_head end c.0 (end - length bs) c.1

abbrev pub is_empty : Head → Bool
is_empty (Block zero) = true
is_empty _ = false

-- empty blocks passed over, of which there are fewer than so many
unfoldable pub head_within : ℕ → ℕ → List ℕ → Plain Head
head_within end zero bs = Err short
head_within end (suc most) bs = any_head end bs >>= λ h. if is_empty h.0 then head_within end most h.1 else Ok h

-- empty blocks passed over
abbrev pub head_at : ℕ → List ℕ → Plain Head
head_at end bs = head_within end (suc (length bs)) bs
