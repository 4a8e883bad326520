use Rattle.export_table.proofs.Ends.{from-rise}
use Rattle.export_table.proofs.waits.rise.Goals as goal

pub loop-wait-init : goal.loop-wait-init
loop-wait-init c = from-rise 0 c.args.waits.now
