use Rattle.std.proofs.Common.{length}
use Rattle.history_model.proofs.limits.+units.Given as goal

abbrev pub decreases-units : goal.decreases-units
decreases-units l = length l.places.now
