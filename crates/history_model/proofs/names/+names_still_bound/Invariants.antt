use Rattle.std.proofs.Common.{length}
use Rattle.history_model.proofs.names.+names_still_bound.Given as goal

abbrev pub decreases-names_still_bound : goal.decreases-names_still_bound
decreases-names_still_bound l = length l.names.now
