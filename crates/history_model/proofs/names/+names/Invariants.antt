use Rattle.std.proofs.Common.{length}
use Rattle.history_model.proofs.names.+names.Given as goal

abbrev pub decreases-names : goal.decreases-names
decreases-names l = length l.places.now
