use Rattle.std.proofs.Common.{rules}
use Rattle.export_table.proofs.Counting.{put-count}
use Rattle.export_table.proofs.counts.set.Goals as goal

pub returns-in-Some-clause-counts : goal.returns-in-Some-clause-counts
returns-in-Some-clause-counts c =
    let held = c.get_mut.follows.holds c.args.count in
    put-count c.args.object.now c.args.count c.args.counts.now (c.get_mut.follows.lender c.args.count) (held.3 (search rules)).0
