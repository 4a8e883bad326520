use Rattle.std.proofs.Common.{length}
use Rattle.history_model.proofs.leases.+calls_naming.Given as goal

abbrev pub decreases-calls_naming : goal.decreases-calls_naming
decreases-calls_naming l = length l.calls.now
