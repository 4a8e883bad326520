use Rattle.std.proofs.Common.{sym}
use Rattle.export_table.proofs.Indexing.{index-removed}
use Rattle.export_table.proofs.index.remove.Goals as goal

pub returns-clause-index : goal.returns-clause-index
returns-clause-index c before after once i =
    index-removed c.args.counts.now c.lower.new.counts c.args.references.now c.unnote.new.references c.args.returns.now c.lower-2.new.returns c.args.wait.now
    (λ o. sym (c.lower.ensures.counts o)) c.unnote.ensures.references (λ u. sym (c.lower-2.ensures.counts u)) before after once i
