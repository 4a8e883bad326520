use Rattle.std.proofs.Common.{◌≡◌, ◌∙◌, arith, refl}
use Rattle.std.proofs.lemmas.Result.{err_from_is_err_and}
use Rattle.jrmp_frames.specs.Frames.{protocol_ack}
use Rattle.call_dispatch.specs.Dialogue.{stream}
use Rattle.call_dispatch.proofs.OpeningSteps.{memory_ends, ack_short, endpoint_short, stands_greeted, greeting_cut, stands_opened, endpoint_ends}
use Rattle.call_dispatch.proofs.opening.open_stream.Goals as goal

pub returns-in_err-ack-clause-opens : goal.returns-in_err-ack-clause-opens
returns-in_err-ack-clause-opens g c start goes =
    let p = err_from_is_err_and c.from_residual.result c.from_residual.ensures.1 in
    rw (p.1, p.2) (memory_ends _ _ _ start _ goes)

pub returns-in_err-sent-clause-opens : goal.returns-in_err-sent-clause-opens
returns-in_err-sent-clause-opens g c start goes =
    let bytes : c.as_slice.result.now ≡ protocol_ack c.args.connection.now.setup.now.peer_host c.args.connection.now.setup.now.peer_port = c.as_slice.ensures ∙ c.in_ok-ack.ensures in
    let writes = rw bytes at c.in_err-sent.ensures.writes in
    let p = err_from_is_err_and c.from_residual-in_err-sent.result c.from_residual-in_err-sent.ensures.1 in
    rw (p.1, p.2) (greeting_cut _ _ _ start _ _ _ goes refl refl refl writes)

pub returns-in-Ok-clause-opens : goal.returns-in-Ok-clause-opens
returns-in-Ok-clause-opens g c start goes =
    let bytes : c.as_slice.result.now ≡ protocol_ack c.args.connection.now.setup.now.peer_host c.args.connection.now.setup.now.peer_port = c.as_slice.ensures ∙ c.in_ok-ack.ensures in
    let writes = rw bytes at c.in_ok-sent.ensures.writes in
    let greets = stands_greeted _ _ _ start _ _ _ _ goes c.requires.at refl refl refl writes in
    let (endpoint, is, rest) = c.in-Ok.ensures.gives in (
      stream endpoint,
      refl,
      omega (arith, rest.at, c.requires.at, endpoint_short endpoint is),
      omega (arith, writes.1, ack_short c.args.connection.now.setup.now.peer_host c.args.connection.now.setup.now.peer_port, c.requires.host),
      stands_opened _ _ _ start _ _ _ _ _ _ endpoint greets rest is,
    )

pub returns-clause-opens : goal.returns-clause-opens
returns-clause-opens g c start goes =
    let bytes : c.as_slice.result.now ≡ protocol_ack c.args.connection.now.setup.now.peer_host c.args.connection.now.setup.now.peer_port = c.as_slice.ensures ∙ c.in_ok-ack.ensures in
    let writes = rw bytes at c.in_ok-sent.ensures.writes in
    let greets = stands_greeted _ _ _ start _ _ _ _ goes c.requires.at refl refl refl writes in
    rw c.end_of.ensures (endpoint_ends _ _ _ start _ _ _ _ _ _ c.in-Err.fault greets (omega (arith, c.requires.at, c.requires.stop)) c.in-Err.ensures.gives)
