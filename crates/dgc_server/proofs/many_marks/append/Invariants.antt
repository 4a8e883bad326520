use Rattle.std.proofs.Common.{◌≡◌, ◌+◌, ◌≤◌, take}
use Rattle.indexmap.specs.IndexMap.{spare}
use Rattle.dgc_server.proofs.many_marks.append.Given as goal

abbrev pub invariant-loop-mark : goal.invariant-loop-mark
invariant-loop-mark l =
    record {
      entries : l.map.entries ≡ take l.mark-index l.marks;
      room : spare l.initial.map ≤ spare l.map + l.mark-index;
    }
