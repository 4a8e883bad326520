use Rattle.history.proofs.NameLaws.{stands-for-last, names-in-order}
use Rattle.history.proofs.laws.a_name_stands_for_its_last_change.Goals as goal

pub returns : goal.returns
returns c = record { standing = stands-for-last; order = names-in-order }
