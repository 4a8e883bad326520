use Rattle.std.proofs.Common.{sym, ◌∙◌}
use Rattle.export_table.proofs.RowLaws.{kind-exported}
use Rattle.test_collector.proofs.export_rows.list.Goals as goal

pub wait_for-requires-clause-exported : goal.wait_for-requires-clause-exported
wait_for-requires-clause-exported c = kind-exported c.args.exports.now.rows c.args.id c.in-Some._kind (sym c.find.ensures ∙ c.in-Some.is)
