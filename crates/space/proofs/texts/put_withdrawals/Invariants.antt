use Rattle.std.proofs.Common.{◌≡◌, ◌++◌, take, flat_map}
use Rattle.history.specs.Outline.{withdrawal_line}
use Rattle.space.proofs.texts.put_withdrawals.Given as goal

abbrev pub invariant-loop-k : goal.invariant-loop-k
invariant-loop-k l = l.text ≡ l.initial.text ++ flat_map (withdrawal_line l.config) (take l.k l.withdrawn.items)
