use Rattle.std.proofs.Common.{◌≡◌, drop}
use Rattle.export_table.specs.Waits.{still_waiting}
use Rattle.export_table.proofs.waits.due_front.Given as goal

abbrev pub invariant-loop-i : goal.invariant-loop-i
invariant-loop-i l = still_waiting l.time l.waits ≡ still_waiting l.time (drop l.i l.waits)
