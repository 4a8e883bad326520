use Rattle.std.proofs.Common.{take}
use Rattle.export_table.specs.WaitIndex.{EndsNoEarlier}
use Rattle.export_table.proofs.waits.least_end.Given as goal

abbrev pub invariant-loop-wait : goal.invariant-loop-wait
invariant-loop-wait l = EndsNoEarlier l.least (take l.wait-index l.waits)
