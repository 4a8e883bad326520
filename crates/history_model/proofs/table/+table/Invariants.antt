use Rattle.std.proofs.Common.{length}
use Rattle.history_model.proofs.table.+table.Given as goal

abbrev pub decreases-table : goal.decreases-table
decreases-table l = length l.places.now
