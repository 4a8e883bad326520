use Rattle.std.proofs.Common.{length}
use Rattle.history_model.proofs.leases.+some_hold.Given as goal

abbrev pub decreases-some_hold : goal.decreases-some_hold
decreases-some_hold l = length l.clients.now
