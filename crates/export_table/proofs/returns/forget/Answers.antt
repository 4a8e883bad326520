use Rattle.export_table.proofs.Returning.{removed-returned}
use Rattle.export_table.proofs.returns.forget.Goals as goal

pub returns-clause-counts : goal.returns-clause-counts
returns-clause-counts c = removed-returned c.args.uid.now c.args.returns.now c.swap_remove.new.self c.swap_remove.ensures.updates.0
