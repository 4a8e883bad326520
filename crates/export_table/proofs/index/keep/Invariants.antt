use Rattle.std.proofs.Common.{◌≡◌, ◌≤◌, ◌++◌, take, drop, true}
use Rattle.std.specs.Prelude.{filter}
use Rattle.indexmap.specs.IndexMap.{spare}
use Rattle.indexmap.specs.IndexSet.{spare as places}
use Rattle.export_table.specs.Waits.{each_once}
use Rattle.export_table.specs.WaitIndex.{stays, IsIndexOf}
use Rattle.export_table.proofs.index.keep.Given as goal

-- What stays of the waits so far, and those to come, are what is indexed.
abbrev pub invariant-loop-i : goal.invariant-loop-i
invariant-loop-i l =
    record {
      once : each_once (filter (stays l.which) (take l.i l.waits) ++ drop l.i l.waits) ≡ true;
      index : IsIndexOf l.counts l.references l.returns (filter (stays l.which) (take l.i l.waits) ++ drop l.i l.waits);
      counts_room : spare l.initial.counts ≤ spare l.counts;
      references_room : places l.initial.references ≤ places l.references;
      returns_room : spare l.initial.returns ≤ spare l.returns;
    }
