use Rattle.std.proofs.Common.{take, ap, ◌∙◌}
use Rattle.export_table.specs.Waits.{ended_waits}
use Rattle.export_table.proofs.Ends.{over-front}
use Rattle.export_table.proofs.wait_queue.WaitQueue.due.Goals as goal

pub returns-clause-over : goal.returns-clause-over
returns-clause-over c =
    ap (λ l. ended_waits c.args.time (take c.due_upto-upto.result l)) c.waits.ensures
    ∙ over-front c.args.time c.due_upto-upto.result c.args.self.now.waits c.due_upto-upto.ensures.rest
