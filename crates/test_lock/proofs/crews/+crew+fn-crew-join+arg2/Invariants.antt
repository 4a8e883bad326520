use Rattle.std.specs.Prelude.{◌+◌}
use Rattle.test_lock.proofs.crews.+crew+fn-crew-join+arg2.Given as goal

abbrev pub decreases-crew : goal.decreases-crew
decreases-crew g l = l.passes + l.passes

abbrev pub decreases-join+arg2 : goal.decreases-join+arg2
decreases-join+arg2 g l = l.left + l.left + 1
