use Rattle.std.proofs.Common.{length}
use Rattle.history_model.proofs.limits.+distinct_clients.Given as goal

abbrev pub decreases-distinct_clients : goal.decreases-distinct_clients
decreases-distinct_clients l = length l.clients.now
