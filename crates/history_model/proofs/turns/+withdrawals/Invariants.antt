use Rattle.std.proofs.Common.{length}
use Rattle.history_model.proofs.turns.+withdrawals.Given as goal

abbrev pub decreases-withdrawals : goal.decreases-withdrawals
decreases-withdrawals l = length l.places.now
