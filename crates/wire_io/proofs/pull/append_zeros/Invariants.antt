use Rattle.std.proofs.Common.{◌≡◌, ◌+◌, ◌++◌, replicate, vec_len, vec_capacity}
use Rattle.wire_io.proofs.pull.append_zeros.Given as goal

abbrev pub invariant-loop-i : goal.invariant-loop-i
invariant-loop-i l = (l.bytes.items ≡ l.initial.bytes.items ++ replicate l._i 0)
    × (vec_len l.bytes ≡ vec_len l.initial.bytes + l._i)
    × (vec_capacity l.bytes ≡ vec_capacity l.initial.bytes)
