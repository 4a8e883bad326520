use Rattle.export_table.proofs.KeptLaws.{rows-are-kept}
use Rattle.export_table.proofs.laws.rows_are_kept.Goals as goal

pub returns : goal.returns
returns c = rows-are-kept
