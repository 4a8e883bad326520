use Rattle.std.proofs.Common.{length}
use Rattle.history_model.proofs.table.+lease_calls.Given as goal

abbrev pub decreases-lease_calls : goal.decreases-lease_calls
decreases-lease_calls l = length l.places.now
