use Rattle.std.proofs.Common.{◌≡◌, ◌+◌, ◌++◌, replicate, vec_len, vec_capacity}
use Rattle.space.proofs.withdrawals.fill.Given as goal

abbrev pub invariant-loop-k : goal.invariant-loop-k
invariant-loop-k l = (l.places.items ≡ l.initial.places.items ++ replicate l._k l.place)
    × (vec_len l.places ≡ vec_len l.initial.places + l._k)
    × (vec_capacity l.places ≡ vec_capacity l.initial.places)
