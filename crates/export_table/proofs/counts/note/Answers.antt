use Rattle.export_table.proofs.Indexing.{noted}
use Rattle.export_table.proofs.counts.note.Goals as goal

pub returns-in-Ok-clause-references : goal.returns-in-Ok-clause-references
returns-in-Ok-clause-references c = noted c.args.object.now c.args.uid.now c.args.references.now c.insert.new.self c.in-Ok.ensures.updates.0
