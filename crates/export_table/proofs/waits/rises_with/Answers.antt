use Rattle.export_table.proofs.Ends.{rise-last}
use Rattle.export_table.proofs.waits.rises_with.Goals as goal

pub returns-then-rising : goal.returns-then-rising
returns-then-rising c = rise-last c.args.wait.now _ c.args.waits.now (c.requires c.if-rising.true)
