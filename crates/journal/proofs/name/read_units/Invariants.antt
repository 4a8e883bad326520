use Rattle.std.proofs.Common.{length}
use Rattle.journal.proofs.NameUnits.{UnitsSoFar}
use Rattle.journal.proofs.name.read_units.Given as goal

abbrev pub invariant-loop-rest : goal.invariant-loop-rest
invariant-loop-rest l = UnitsSoFar l.text l.units l.rest

abbrev pub decreases-loop-rest : goal.decreases-loop-rest
decreases-loop-rest l = length l.rest
