use Rattle.history.proofs.CollectorLaws.{rows_after_each-table}
use Rattle.history.proofs.laws.the_table_is_what_each_event_leaves.Goals as goal

pub returns : goal.returns
returns c = rows_after_each-table
