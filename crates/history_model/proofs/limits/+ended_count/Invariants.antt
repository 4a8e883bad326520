use Rattle.std.proofs.Common.{length}
use Rattle.history_model.proofs.limits.+ended_count.Given as goal

abbrev pub decreases-ended_count : goal.decreases-ended_count
decreases-ended_count l = length l.places.now
