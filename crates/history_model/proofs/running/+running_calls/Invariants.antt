use Rattle.std.proofs.Common.{length}
use Rattle.history_model.proofs.running.+running_calls.Given as goal

abbrev pub decreases-running_calls : goal.decreases-running_calls
decreases-running_calls l = length l.places.now
