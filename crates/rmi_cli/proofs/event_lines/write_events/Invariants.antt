use Rattle.std.proofs.Common.{length}
use Rattle.std.specs.Prelude.{map}
use Rattle.wire_io.specs.Wire.{WriteHalf}
use Rattle.journal.specs.Written.{event_line}
use Rattle.rmi_cli.specs.Sinks.{Goes}
use Rattle.rmi_cli.specs.declared.sink_state.SinkState.{SinkState}
use Rattle.rmi_cli.proofs.event_lines.write_events.Given as goal

-- What writes the rest writes all.
abbrev pub invariant-loop-rest : goal.invariant-loop-rest
invariant-loop-rest g l = (after : WriteHalf) (last : SinkState) → Goes (g.K.Sink.half l.sink) after (map (event_line l.space) l.rest) l.state last
    → Goes (g.K.Sink.half l.initial.sink) after (map (event_line l.space) l.events) l.initial.state last

abbrev pub decreases-loop-rest : goal.decreases-loop-rest
decreases-loop-rest g l = length l.rest
