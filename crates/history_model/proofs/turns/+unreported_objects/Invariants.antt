use Rattle.std.proofs.Common.{length}
use Rattle.history_model.proofs.turns.+unreported_objects.Given as goal

abbrev pub decreases-unreported_objects : goal.decreases-unreported_objects
decreases-unreported_objects l = length l.places.now
