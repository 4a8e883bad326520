use Rattle.std.proofs.Common.{◌≡◌, length}
use Rattle.std.proofs.lemmas.List.Filters.{FiltersInPlace}
use Rattle.export_table.specs.WaitIndex.{stays}
use Rattle.export_table.proofs.waits.keep.Given as goal

abbrev pub invariant-loop-i : goal.invariant-loop-i
invariant-loop-i l =
    record {
      front : FiltersInPlace (stays l.which) l.initial.waits l.waits l.kept l.i;
      long : length l.waits ≡ length l.initial.waits;
    }
