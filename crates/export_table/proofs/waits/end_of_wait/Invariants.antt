use Rattle.std.proofs.Common.{◌≡◌, drop}
use Rattle.export_table.specs.Waits.{end_of_wait}
use Rattle.export_table.proofs.waits.end_of_wait.Given as goal

abbrev pub invariant-loop-wait : goal.invariant-loop-wait
invariant-loop-wait l = end_of_wait l.object l.uid l.waits ≡ end_of_wait l.object l.uid (drop l.wait-index l.waits)
