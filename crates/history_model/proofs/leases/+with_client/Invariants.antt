use Rattle.std.proofs.Common.{length}
use Rattle.history_model.proofs.leases.+with_client.Given as goal

abbrev pub decreases-with_client : goal.decreases-with_client
decreases-with_client l = length l.clients.now
