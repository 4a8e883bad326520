use Rattle.std.proofs.Common.{◌≡◌, map, take}
use Rattle.export_table.specs.ExportRows.{row_at}
use Rattle.export_table.specs.Slots.{rows_here}
use Rattle.export_table.proofs.slots.list.Given as goal

abbrev pub invariant-loop-slot : goal.invariant-loop-slot
invariant-loop-slot l = l.list ≡ map (row_at l.now l.waits.waits) (rows_here (take l.slot-index l.slots))
