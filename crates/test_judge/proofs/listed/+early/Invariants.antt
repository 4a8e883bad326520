use Rattle.std.proofs.Common.{length}
use Rattle.test_judge.proofs.listed.+early.Given as goal

abbrev pub decreases-early : goal.decreases-early
decreases-early l = length l.events.now
