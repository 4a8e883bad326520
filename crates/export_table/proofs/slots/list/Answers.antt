use Rattle.export_table.specs.ExportRows.{row_at}
use Rattle.export_table.proofs.Slotted.{rows-next}
use Rattle.export_table.proofs.slots.list.Goals as goal

pub loop-slot-preserved : goal.loop-slot-preserved
loop-slot-preserved c =
    rows-next (row_at c.args.now c.args.waits.now.waits) c.args.slots.now c.loop-slot.slot-index _ c.loop-slot.list _ c.loop-slot-test.true c.loop-slot.invariant c.in_ok-show.ensures
