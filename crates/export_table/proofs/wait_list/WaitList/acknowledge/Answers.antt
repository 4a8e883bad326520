use Rattle.std.proofs.Common.{take, drop}
use Rattle.export_table.proofs.Returning.{others-stay}
use Rattle.export_table.proofs.wait_list.WaitList.acknowledge.Goals as goal

pub keep-requires-clause-before : goal.keep-requires-clause-before
keep-requires-clause-before c = others-stay c.args.uid.now (take c.part_of-part.result.0 c.args.self.now.waits) c.part_of-part.ensures.before

pub keep-requires-clause-after : goal.keep-requires-clause-after
keep-requires-clause-after c = others-stay c.args.uid.now (drop c.part_of-part.result.1 c.args.self.now.waits) c.part_of-part.ensures.after
