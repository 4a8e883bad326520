use Rattle.turn_lock.proofs.OrderLaws.{rule-orders}
use Rattle.turn_lock.proofs.laws.passes_are_ordered.Goals as goal

pub returns : goal.returns
returns c = record { ordered = rule-orders }
