use Rattle.std.proofs.Common.{◌≡◌, map, take}
use Rattle.ports.specs.AskedRows.{entry_of_row}
use Rattle.ports.proofs.asked_log.copies_of.Given as goal

abbrev pub invariant-loop-row : goal.invariant-loop-row
invariant-loop-row l = l.list ≡ map (entry_of_row l.wholes) (take l.row-index l.rows)
