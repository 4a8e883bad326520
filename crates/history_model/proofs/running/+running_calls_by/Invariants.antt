use Rattle.std.proofs.Common.{length}
use Rattle.history_model.proofs.running.+running_calls_by.Given as goal

abbrev pub decreases-running_calls_by : goal.decreases-running_calls_by
decreases-running_calls_by l = length l.places.now
