use Rattle.history.proofs.KeptSince.{table-is-kept}
use Rattle.history.proofs.laws.the_table_is_what_was_kept_since_its_export.Goals as goal

pub returns : goal.returns
returns c = table-is-kept
