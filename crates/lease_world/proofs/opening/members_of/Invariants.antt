use Rattle.lease_world.specs.Stands.{AreFresh}
use Rattle.lease_world.proofs.opening.members_of.Given as goal

abbrev pub invariant-loop-number : goal.invariant-loop-number
invariant-loop-number l = AreFresh l.lease_ms l.number l.members.items
