use Rattle.std.proofs.Common.{◌<◌, length, arith}
use Rattle.export_table.proofs.Returning.{some-left, here-less, last-less}
use Rattle.export_table.proofs.waits.part_of.Goals as goal

pub loop-earlier-preserved : goal.loop-earlier-preserved
loop-earlier-preserved c =
    let inv = c.loop-earlier.invariant in
    let behind = inv.behind in
    let more : 0 < c.loop-earlier.later = c.if-later-gt0.true in
    let there : c.loop-earlier.looked < length c.args.waits.now = some-left c.args.uid.now c.args.waits.now c.loop-earlier.looked (omega arith) in record {
      within = omega arith;
      behind = here-less c.args.uid.now c.args.waits.now c.loop-earlier.looked _ c.less_if-later.result c.loop-earlier.later there c.less_if-later.ensures inv.behind;
      before = last-less c.args.uid.now c.args.waits.now c.loop-earlier.looked _ c.less_if-earlier.result c.loop-earlier.earlier there c.less_if-earlier.ensures inv.before;
    }
