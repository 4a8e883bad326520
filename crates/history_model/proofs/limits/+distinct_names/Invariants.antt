use Rattle.std.proofs.Common.{length}
use Rattle.history_model.proofs.limits.+distinct_names.Given as goal

abbrev pub decreases-distinct_names : goal.decreases-distinct_names
decreases-distinct_names l = length l.names.now
