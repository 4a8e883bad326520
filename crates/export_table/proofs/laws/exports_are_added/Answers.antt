use Rattle.export_table.proofs.KeptLaws.{exports-are-added, exports-are-counted}
use Rattle.export_table.proofs.laws.exports_are_added.Goals as goal

pub returns-clause-rows : goal.returns-clause-rows
returns-clause-rows c = exports-are-added

pub returns-clause-count : goal.returns-clause-count
returns-clause-count c = exports-are-counted
