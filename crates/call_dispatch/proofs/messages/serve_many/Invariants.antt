use Rattle.std.proofs.Common.{◌≡◌, ◌+◌, ◌*◌, ◌-◌, ◌≤◌, List, [], length}
use Rattle.ser_values.specs.declared.limits.TheConstants.{MESSAGE_BYTES}
use Rattle.jrmp_frames.specs.declared.header.Protocol.TheVariants.{Stream}
use Rattle.ports.specs.Balance.{Balanced}
use Rattle.system_objects.specs.Terms.{terms_of}
use Rattle.call_dispatch.specs.ConnectionState.{ConnectionState, state_of_connection, IsLent}
use Rattle.call_dispatch.specs.Faults.{counts_of, Grew, KeepsShut}
use Rattle.call_dispatch.specs.Rows.{Exchange, StaysOpen}
use Rattle.call_dispatch.specs.Dialogue.{Opening, protocol_of, opened}
use Rattle.call_dispatch.specs.Progress.{StandsWhole}
use Rattle.call_dispatch.proofs.messages.serve_many.Given as goal
use Rattle.system_objects.specs.declared.returns.TheConstants.{RETURN_BYTES}
use Rattle.call_dispatch.specs.declared.messages.TheConstants.{MAX_MESSAGES, MAX_BYTES}

-- So many exchanges stand, and the connection goes on; none but a Call took or wrote more than a few bytes, and no Call behind too many; each made at most three turns, invoked the worker at
-- most once and drew at most two identifiers.
abbrev pub invariant-loop-after : goal.invariant-loop-after
invariant-loop-after g l = ((start : ConnectionState) (opening : Opening) → protocol_of opening ≡ Stream
    → StandsWhole g.W.Worker.may g.W.Worker.moves (terms_of l.initial.connection.book.now l.initial.connection.setup.now) start
    (state_of_connection g.S.Source.half g.K.Sink.half g.C.Clock.given g.P.Port.shown g.W.Worker.shown l.initial.connection) l.initial.connection.pull.at l.before (opened opening [])
    → (exchanges : List Exchange) × (length exchanges ≡ l.served) × StaysOpen exchanges
    × StandsWhole g.W.Worker.may g.W.Worker.moves (terms_of l.initial.connection.book.now l.initial.connection.setup.now) start
    (state_of_connection g.S.Source.half g.K.Sink.half g.C.Clock.given g.P.Port.shown g.W.Worker.shown l.connection) l.connection.pull.at l.sent (opened opening exchanges))
    × (l.served ≤ MAX_MESSAGES)
    × (l.connection.pull.at ≤ MAX_BYTES + MESSAGE_BYTES + 15 * l.served)
    × (l.sent ≤ MAX_BYTES + RETURN_BYTES + l.served)
    × IsLent l.initial.connection l.connection
    × Grew (counts_of g.S.Source.half g.K.Sink.half l.initial.connection) (counts_of g.S.Source.half g.K.Sink.half l.connection)
    × Balanced (g.P.Port.shown l.connection.port.now).asked
    × g.P.Port.ready l.connection.port.now
    × g.P.Port.leads l.initial.connection.port.now l.connection.port.now
    × ((g.P.Port.shown l.initial.connection.port.now).room ≤ (g.P.Port.shown l.connection.port.now).room + 3 * l.served)
    × ((g.W.Worker.shown l.connection.worker.now).calls ≤ (g.W.Worker.shown l.initial.connection.worker.now).calls + l.served)
    × (l.connection.setup.now.draw.drawn ≤ l.initial.connection.setup.now.draw.drawn + 2 * l.served)
    × KeepsShut g.S.Source.half g.K.Sink.half l.initial.connection l.connection

abbrev pub decreases-loop-after : goal.decreases-loop-after
decreases-loop-after g l = MAX_MESSAGES - l.served
