use Rattle.std.proofs.Common.{length}
use Rattle.history_model.proofs.leases.+calls_of.Given as goal

abbrev pub decreases-calls_of : goal.decreases-calls_of
decreases-calls_of l = length l.calls.now
