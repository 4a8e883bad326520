use Rattle.std.proofs.Common.{◌≡◌, ◌+◌, ◌++◌, take, vec_len, vec_capacity}
use Rattle.ser_read.proofs.spelled.push_each.Given as goal

abbrev pub invariant-loop-byte : goal.invariant-loop-byte
invariant-loop-byte l = (l.units.items ≡ l.initial.units.items ++ take l.byte-index l.bytes)
    × (vec_len l.units ≡ vec_len l.initial.units + l.byte-index)
    × (vec_capacity l.units ≡ vec_capacity l.initial.units)
