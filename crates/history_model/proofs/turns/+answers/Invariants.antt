use Rattle.std.proofs.Common.{length}
use Rattle.history_model.proofs.turns.+answers.Given as goal

abbrev pub decreases-answers : goal.decreases-answers
decreases-answers l = length l.events.now
