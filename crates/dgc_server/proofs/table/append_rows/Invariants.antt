use Rattle.std.proofs.Common.{◌≡◌, ◌++◌, filter, map, take}
use Rattle.dgc_server.specs.Entry.{has_time_left, row_of}
use Rattle.dgc_server.proofs.table.append_rows.Given as goal

abbrev pub invariant-loop-entry : goal.invariant-loop-entry
invariant-loop-entry l = l.rows ≡ l.initial.rows ++ map row_of (filter (has_time_left l.time) (take l.entry-index l.entries))
