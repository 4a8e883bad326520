use Rattle.std.proofs.Common.{◌-◌, arith}
use Rattle.export_table.proofs.Counting.{lowered}
use Rattle.export_table.proofs.counts.lower.Goals as goal

pub returns-then-count-gt1-clause-counts : goal.returns-then-count-gt1-clause-counts
returns-then-count-gt1-clause-counts c =
    lowered c.args.object.now (c.count_of-count.result - 1) c.args.counts.now c.set.new.counts (omega (arith, c.count_of-count.ensures, c.requires)) c.set.ensures.counts

pub returns-else-count-gt1-clause-counts : goal.returns-else-count-gt1-clause-counts
returns-else-count-gt1-clause-counts c =
    lowered c.args.object.now 0 c.args.counts.now c.forget.new.counts (omega (arith, c.count_of-count.ensures, c.requires, c.if-count-gt1.false)) c.forget.ensures.counts
