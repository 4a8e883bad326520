use Rattle.lease_world.proofs.Theorem.{theorem}
use Rattle.lease_world.proofs.laws.what_is_promised_is_exported.Goals as goal

pub returns : goal.returns
returns c = theorem
