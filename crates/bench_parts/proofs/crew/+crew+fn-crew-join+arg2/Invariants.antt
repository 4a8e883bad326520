use Rattle.std.specs.Prelude.{◌+◌}
use Rattle.bench_parts.proofs.crew.+crew+fn-crew-join+arg2.Given as goal

abbrev pub decreases-crew : goal.decreases-crew
decreases-crew g l = l.threads + l.threads

abbrev pub decreases-join+arg2 : goal.decreases-join+arg2
decreases-join+arg2 g l = l.left + l.left + 1
