use Rattle.std.proofs.Common.{length}
use Rattle.history_model.proofs.leases.+pairs_among.Given as goal

abbrev pub decreases-pairs_among : goal.decreases-pairs_among
decreases-pairs_among l = length l.clients.now
