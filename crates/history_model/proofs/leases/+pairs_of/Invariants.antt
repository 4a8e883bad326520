use Rattle.std.proofs.Common.{length}
use Rattle.history_model.proofs.leases.+pairs_of.Given as goal

abbrev pub decreases-pairs_of : goal.decreases-pairs_of
decreases-pairs_of l = length l.objects.now
