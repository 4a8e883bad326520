use Rattle.std.proofs.Common.{length}
use Rattle.history_model.proofs.leases.+with_time_left.Given as goal

abbrev pub decreases-with_time_left : goal.decreases-with_time_left
decreases-with_time_left l = length l.clients.now
