use Rattle.export_table.proofs.Counting.{removed}
use Rattle.export_table.proofs.counts.forget.Goals as goal

pub returns-clause-counts : goal.returns-clause-counts
returns-clause-counts c = removed c.args.object.now c.args.counts.now c.swap_remove.new.self c.swap_remove.ensures.updates.0
