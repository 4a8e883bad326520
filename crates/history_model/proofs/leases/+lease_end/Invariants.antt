use Rattle.std.proofs.Common.{length}
use Rattle.history_model.proofs.leases.+lease_end.Given as goal

abbrev pub decreases-lease_end : goal.decreases-lease_end
decreases-lease_end l = length l.own.now
