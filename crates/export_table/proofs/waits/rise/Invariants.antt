use Rattle.std.proofs.Common.{drop}
use Rattle.export_table.specs.WaitIndex.{EndsRise}
use Rattle.export_table.proofs.Ends.{RiseFrom}
use Rattle.export_table.proofs.waits.rise.Given as goal

abbrev pub invariant-loop-wait : goal.invariant-loop-wait
invariant-loop-wait l = RiseFrom l.greatest (drop l.wait-index l.waits) → EndsRise l.waits
