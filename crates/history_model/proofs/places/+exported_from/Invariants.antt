use Rattle.std.proofs.Common.{length}
use Rattle.history_model.proofs.places.+exported_from.Given as goal

abbrev pub decreases-exported_from : goal.decreases-exported_from
decreases-exported_from l = length l.kinds.now
