use Rattle.std.proofs.Common.{length}
use Rattle.history_model.proofs.places.+ever_exported.Given as goal

abbrev pub decreases-ever_exported : goal.decreases-ever_exported
decreases-ever_exported l = length l.places.now
