use Rattle.history.proofs.NamedLaws.{named-exported}
use Rattle.history.proofs.laws.what_a_name_stands_for_is_exported.Goals as goal

pub returns : goal.returns
returns c = named-exported
