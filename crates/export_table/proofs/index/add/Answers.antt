use Rattle.export_table.proofs.Indexing.{index-added}
use Rattle.export_table.proofs.index.add.Goals as goal

pub returns-clause-index : goal.returns-clause-index
returns-clause-index c waits i =
    index-added c.args.counts.now c.raise.new.counts c.args.references.now c.note.new.references c.args.returns.now c.raise-2.new.returns c.args.wait.now c.raise.ensures.counts c.note.ensures.references c.raise-2.ensures.counts waits i
