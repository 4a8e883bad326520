use Rattle.std.proofs.Common.{length}
use Rattle.history_model.proofs.awaiting.+all_returned.Given as goal

abbrev pub decreases-all_returned : goal.decreases-all_returned
decreases-all_returned l = length l.places.now
