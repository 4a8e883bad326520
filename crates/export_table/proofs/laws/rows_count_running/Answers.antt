use Rattle.export_table.proofs.KeptLaws.{others-leave-rows}
use Rattle.export_table.proofs.StandLaws.{rows-count, begin-counts, end-counts}
use Rattle.export_table.proofs.laws.rows_count_running.Goals as goal

pub returns-clause-counts : goal.returns-clause-counts
returns-clause-counts c = rows-count

pub returns-clause-begins : goal.returns-clause-begins
returns-clause-begins c = begin-counts

pub returns-clause-ends : goal.returns-clause-ends
returns-clause-ends c = end-counts

pub returns-clause-others : goal.returns-clause-others
returns-clause-others c = others-leave-rows
