use Rattle.std.proofs.Common.{length}
use Rattle.history_model.proofs.leases.+clients.Given as goal

abbrev pub decreases-clients : goal.decreases-clients
decreases-clients l = length l.calls.now
