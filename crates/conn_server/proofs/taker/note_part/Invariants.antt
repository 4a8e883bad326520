use Rattle.std.proofs.Common.{◌≡◌, ◌++◌, take}
use Rattle.conn_server.proofs.taker.note_part.Given as goal

abbrev pub invariant-loop-event : goal.invariant-loop-event
invariant-loop-event l = l.events ≡ l.fn.events ++ take l.event-index l.part
