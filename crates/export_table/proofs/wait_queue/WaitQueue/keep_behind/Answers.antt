use Rattle.export_table.specs.WaitIndex.{stays}
use Rattle.export_table.proofs.Queued.{queue-kept}
use Rattle.export_table.proofs.wait_queue.WaitQueue.keep_behind.Goals as goal

pub invariant_of-self : goal.invariant_of-self
invariant_of-self c =
    queue-kept c.self.inside.waits.items c.keep_behind.new.waits.items c.self.inside.gone c.self.inside.gone c.self.inside.next c.self.inside.rising (stays c.args.which.now)
    c.keep_behind.ensures.gone c.keep_behind.ensures.kept c.self.invariant
