use Rattle.std.proofs.Common.{length}
use Rattle.history_model.proofs.limits.+started_count.Given as goal

abbrev pub decreases-started_count : goal.decreases-started_count
decreases-started_count l = length l.places.now
