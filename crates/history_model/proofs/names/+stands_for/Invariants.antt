use Rattle.std.proofs.Common.{length}
use Rattle.history_model.proofs.names.+stands_for.Given as goal

abbrev pub decreases-stands_for : goal.decreases-stands_for
decreases-stands_for l = length l.places.now
