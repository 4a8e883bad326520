use Rattle.std.proofs.Common.{length}
use Rattle.history_model.proofs.limits.+distinct_pairs.Given as goal

abbrev pub decreases-distinct_pairs : goal.decreases-distinct_pairs
decreases-distinct_pairs l = length l.pairs.now
