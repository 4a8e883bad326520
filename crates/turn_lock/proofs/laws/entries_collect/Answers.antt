use Rattle.turn_lock.proofs.OrderLaws.{entries-collect}
use Rattle.turn_lock.proofs.laws.entries_collect.Goals as goal

pub returns : goal.returns
returns c = record { collected = entries-collect }
