use Rattle.std.proofs.Common.{◌≡◌, ◌++◌, flat_map, drop}
use Rattle.journal.specs.Written.{event_line}
use Rattle.rmi_cli.proofs.event_lines.lines_of.Given as goal

abbrev pub invariant-loop-event : goal.invariant-loop-event
invariant-loop-event l = l.text ++ flat_map (event_line l.space) (drop l.event-index l.events) ≡ flat_map (event_line l.space) l.events
