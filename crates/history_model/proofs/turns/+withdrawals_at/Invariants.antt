use Rattle.std.proofs.Common.{length}
use Rattle.history_model.proofs.turns.+withdrawals_at.Given as goal

abbrev pub decreases-withdrawals_at : goal.decreases-withdrawals_at
decreases-withdrawals_at l = length l.objects.now
