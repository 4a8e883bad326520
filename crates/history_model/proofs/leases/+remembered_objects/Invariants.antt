use Rattle.std.proofs.Common.{length}
use Rattle.history_model.proofs.leases.+remembered_objects.Given as goal

abbrev pub decreases-remembered_objects : goal.decreases-remembered_objects
decreases-remembered_objects l = length l.objects.now
