use Rattle.export_table.proofs.Indexing.{unnoted}
use Rattle.export_table.proofs.counts.unnote.Goals as goal

pub returns-clause-references : goal.returns-clause-references
returns-clause-references c = unnoted c.args.object.now c.args.uid.now c.args.references.now c.swap_remove.new.self c.swap_remove.ensures.updates.0
