use Rattle.std.proofs.Common.{◌≡◌, ◌++◌, drop}
use Rattle.rmi_cli.proofs.host_desk.note_events.Given as goal

abbrev pub invariant-loop-event : goal.invariant-loop-event
invariant-loop-event l = l.noted ++ drop l.event-index l.events ≡ l.initial.noted ++ l.events
