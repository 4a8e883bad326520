use Rattle.std.proofs.Common.{length}
use Rattle.history_model.proofs.leases.+strong_cleans.Given as goal

abbrev pub decreases-strong_cleans : goal.decreases-strong_cleans
decreases-strong_cleans l = length l.own.now
