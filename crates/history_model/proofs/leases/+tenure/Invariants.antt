use Rattle.std.proofs.Common.{length}
use Rattle.history_model.proofs.leases.+tenure.Given as goal

abbrev pub decreases-tenure : goal.decreases-tenure
decreases-tenure l = length l.own.now
