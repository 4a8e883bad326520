use Rattle.ser_values.specs.Walk.{stacked}
use Rattle.ser_values.proofs.Runs.{close_run, null_step}
use Rattle.ser_values.proofs.walking.step.Goals as goal

pub returns-in-Close-clause-step : goal.returns-in-Close-clause-step
returns-in-Close-clause-step c = rw (c.in-Close.is, c.close.ensures.unread, c.close.ensures.order) (close_run c.args.loose.now.nodes.now (stacked c.args.stack.now.items) c.args.seen.now.unread.items c.args.seen.now.order.items)

pub returns-in-Null-clause-step : goal.returns-in-Null-clause-step
returns-in-Null-clause-step c =
    rw (c.in-Visit.is, c.in-Null.is) (null_step c.args.loose.now.nodes.now c.in-Visit.left c.in-Visit.place (stacked c.args.stack.now.items) c.args.seen.now.unread.items c.args.seen.now.order.items c.admits_null.result c.admits_null.ensures)
