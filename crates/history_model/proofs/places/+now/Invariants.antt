use Rattle.std.proofs.Common.{length}
use Rattle.history_model.proofs.places.+now.Given as goal

abbrev pub decreases-now : goal.decreases-now
decreases-now l = length l.places.now
