use Rattle.std.proofs.Common.{◌≤◌}
use Rattle.export_table.specs.WaitIndex.{stays}
use Rattle.export_table.proofs.Moved.{KeepsBack}
use Rattle.export_table.proofs.waits.keep_before.Given as goal

abbrev pub decreases-loop-place : goal.decreases-loop-place
decreases-loop-place l = l.place

abbrev pub invariant-loop-place : goal.invariant-loop-place
invariant-loop-place l =
    record {
      moved : KeepsBack (stays l.which) l.initial.waits l.waits l.kept l.place;
      from : l.gone ≤ l.place;
    }
