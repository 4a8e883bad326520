use Rattle.std.proofs.Common.{◌≡◌, ◌+◌, drop}
use Rattle.rmi_caller.specs.Exceptions.{colon_at}
use Rattle.rmi_caller.proofs.exception.colon_at.Given as goal

abbrev pub invariant-loop-at : goal.invariant-loop-at
invariant-loop-at l = colon_at l.units ≡ l.at + colon_at (drop l.at l.units)
