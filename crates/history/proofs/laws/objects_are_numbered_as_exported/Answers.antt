use Rattle.history.proofs.NumberLaws.{exported_count-length, ids-in-order}
use Rattle.history.proofs.laws.objects_are_numbered_as_exported.Goals as goal

pub returns : goal.returns
returns c = record { next = exported_count-length; ids = ids-in-order }
