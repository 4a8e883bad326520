use Rattle.std.proofs.Common.{◌≡◌, ◌+◌, ◌++◌, drop}
use Rattle.space.specs.Acts.{new_ids}
use Rattle.space.proofs.returns.new_ids.Given as goal

abbrev pub invariant-loop-i : goal.invariant-loop-i
invariant-loop-i l = l.ids.items ++ new_ids l.space (l.k + l.i) (drop l.i l.made) ≡ new_ids l.space l.k l.made
