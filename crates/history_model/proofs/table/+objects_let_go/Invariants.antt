use Rattle.std.proofs.Common.{length}
use Rattle.history_model.proofs.table.+objects_let_go.Given as goal

abbrev pub decreases-objects_let_go : goal.decreases-objects_let_go
decreases-objects_let_go l = length l.objects.now
