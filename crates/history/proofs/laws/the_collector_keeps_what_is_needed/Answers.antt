use Rattle.history.proofs.CollectorLaws.{collects}
use Rattle.history.proofs.laws.the_collector_keeps_what_is_needed.Goals as goal

pub returns : goal.returns
returns c = collects
