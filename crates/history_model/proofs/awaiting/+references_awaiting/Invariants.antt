use Rattle.std.proofs.Common.{length}
use Rattle.history_model.proofs.awaiting.+references_awaiting.Given as goal

abbrev pub decreases-references_awaiting : goal.decreases-references_awaiting
decreases-references_awaiting l = length l.references.now
