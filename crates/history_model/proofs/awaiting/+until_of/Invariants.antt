use Rattle.std.proofs.Common.{length}
use Rattle.history_model.proofs.awaiting.+until_of.Given as goal

abbrev pub decreases-until_of : goal.decreases-until_of
decreases-until_of l = length l.places.now
