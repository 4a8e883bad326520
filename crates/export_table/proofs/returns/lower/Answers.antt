use Rattle.std.proofs.Common.{◌-◌, arith}
use Rattle.export_table.proofs.Returning.{lowered-returned}
use Rattle.export_table.proofs.returns.lower.Goals as goal

pub returns-then-count-gt1-clause-counts : goal.returns-then-count-gt1-clause-counts
returns-then-count-gt1-clause-counts c =
    lowered-returned c.args.uid.now (c.count_of-count.result - 1) c.args.returns.now c.set.new.returns (omega (arith, c.count_of-count.ensures, c.requires)) c.set.ensures.counts

pub returns-else-count-gt1-clause-counts : goal.returns-else-count-gt1-clause-counts
returns-else-count-gt1-clause-counts c =
    lowered-returned c.args.uid.now 0 c.args.returns.now c.forget.new.returns (omega (arith, c.count_of-count.ensures, c.requires, c.if-count-gt1.false)) c.forget.ensures.counts
