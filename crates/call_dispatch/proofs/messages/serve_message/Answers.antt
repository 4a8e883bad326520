use Rattle.std.proofs.Common.{◌+◌, ◌∙◌, sym, ap, refl, arith, [], inl}
use Rattle.call_dispatch.specs.ConnectionState.{state_of_connection}
use Rattle.call_dispatch.specs.Dialogue.{opened}
use Rattle.call_dispatch.specs.declared.end.ConnEnd.TheVariants as ends
use Rattle.call_dispatch.proofs.Steps.{talks_took}
use Rattle.call_dispatch.proofs.MessageSteps.{code_ends, ping_steps, most_of_call}
use Rattle.call_dispatch.proofs.AckSteps.{ack_steps, ack_most, most_of_ack, ack_blames}
use Rattle.call_dispatch.proofs.Blaming.{blames_from}
use Rattle.call_dispatch.proofs.Shutting.{ack_shut}
use Rattle.call_dispatch.proofs.messages.serve_message.Goals as goal

pub returns-in-Ok-None-clause-steps : goal.returns-in-Ok-None-clause-steps
returns-in-Ok-None-clause-steps g c start opening exchanges count code stands =
    let gives = rw c.in-Ok-None.field-0-is at c.in-Ok-None.ensures.gives in
    talks_took _ _ _ start _ _ _ _ (opened opening exchanges) [] ends.Ended stands (ap (λ s. (g.S.Source.half s).left) (sym c.mark.ensures.source) ∙ gives.0.left) refl refl refl
    (inl (code, gives.1), refl)

pub returns-in-Err-clause-steps : goal.returns-in-Err-clause-steps
returns-in-Err-clause-steps g c start opening exchanges count code stands =
    let moved = rw (← c.mark.ensures.source, ← c.mark.ensures.at) at stands in
    rw c.end_of.ensures (code_ends _ _ _ start _ _ _ _ _ _ (opened opening exchanges) c.in-Err.fault moved code
    (omega (arith, c.mark.ensures.at, c.mark.ensures.stop, c.requires.at)) c.in-Err.ensures.gives)

pub returns-then-served-eq-MAX_MESSAGES-clause-steps : goal.returns-then-served-eq-MAX_MESSAGES-clause-steps
returns-then-served-eq-MAX_MESSAGES-clause-steps g c start opening exchanges count code stands =
    let gives = rw c.in-Ok-Some.field-0-is at c.in-Ok-Some.ensures.gives in
    talks_took _ _ _ start _ _ _ _ (opened opening exchanges) _ ends.MessageLimit stands (ap (λ s. (g.S.Source.half s).left) (sym c.mark.ensures.source) ∙ gives.left) refl refl refl
    (code, count ∙ c.if-served-eq-MAX_MESSAGES.true, (_, (c.in-Ok-Some.code, refl), refl))

pub returns-in-Ping-clause-steps : goal.returns-in-Ping-clause-steps
returns-in-Ping-clause-steps g c start opening exchanges count code stands =
    let gives = rw c.in-Ping.is at (rw c.in-Ok-Some.field-0-is at c.in-Ok-Some.ensures.gives) in
    ping_steps _ _ _ start _ _ _ _ _ opening exchanges c.write_answer.result stands code
    (omega (arith, count, c.requires.served, c.if-served-eq-MAX_MESSAGES.false)) (ap (λ s. (g.S.Source.half s).left) (sym c.mark.ensures.source) ∙ gives.left) refl refl
    (gives.at ∙ ap (λ n. n + 1) c.mark.ensures.at) c.write_answer.ensures.writes

pub returns-in-DgcAck-clause-steps : goal.returns-in-DgcAck-clause-steps
returns-in-DgcAck-clause-steps g c start opening exchanges count code stands =
    let gives = rw c.in-DgcAck.is at (rw c.in-Ok-Some.field-0-is at c.in-Ok-Some.ensures.gives) in
    let moved = rw (← c.mark.ensures.source, ← c.mark.ensures.at) at stands in
    rw (c.acknowledge.ensures.frame.sink, c.acknowledge.ensures.setup) (ack_steps _ _ _ start _ _ _ _ _ _ _ _ opening exchanges c.acknowledge.result moved code
    (omega (arith, count, c.requires.served, c.if-served-eq-MAX_MESSAGES.false)) (omega (arith, c.mark.ensures.at, c.mark.ensures.stop, c.requires.at)) gives c.acknowledge.ensures.acknowledges)

pub returns-in-DgcAck-clause-most : goal.returns-in-DgcAck-clause-most
returns-in-DgcAck-clause-most g c =
    let gives = rw c.in-DgcAck.is at (rw c.in-Ok-Some.field-0-is at c.in-Ok-Some.ensures.gives) in
    most_of_ack c.acknowledge.result _ _ _ _ (omega (arith, gives.at, c.mark.ensures.at)) (ack_most _ _ _ _ _ _ _ c.acknowledge.result c.acknowledge.ensures.acknowledges)

pub returns-in-DgcAck-clause-blames : goal.returns-in-DgcAck-clause-blames
returns-in-DgcAck-clause-blames g c =
    let gives = rw c.in-DgcAck.is at (rw c.in-Ok-Some.field-0-is at c.in-Ok-Some.ensures.gives) in
    let faults = rw c.mark.ensures.source at gives.faults in
    rw c.acknowledge.ensures.frame.sink (blames_from _ _ _ _ c.acknowledge.result faults (ack_blames _ _ _ _ _ _ _ _ c.acknowledge.result c.acknowledge.ensures.acknowledges))

pub returns-in-Call-clause-steps : goal.returns-in-Call-clause-steps
returns-in-Call-clause-steps g c start opening exchanges count code stands =
    let gives = rw c.in-Call.is at (rw c.in-Ok-Some.field-0-is at c.in-Ok-Some.ensures.gives) in
    c.serve_call.ensures.serves start (state_of_connection g.S.Source.half g.K.Sink.half g.C.Clock.given g.P.Port.shown g.W.Worker.shown c.args.connection.now) opening exchanges (record {
      few = omega (arith, count, c.requires.served, c.if-served-eq-MAX_MESSAGES.false);
      code = code;
      place = c.args.connection.now.pull.at;
      stands = stands;
      left = ap (λ s. (g.S.Source.half s).left) (sym c.mark.ensures.source) ∙ gives.left;
      held = refl;
      side = refl;
      drawn = refl;
      position = gives.at ∙ ap (λ n. n + 1) c.mark.ensures.at;
      limit = omega (arith, gives.stop, c.mark.ensures.stop, c.requires.at);
    })

pub returns-in-Call-clause-most : goal.returns-in-Call-clause-most
returns-in-Call-clause-most g c =
    let gives = rw c.in-Call.is at (rw c.in-Ok-Some.field-0-is at c.in-Ok-Some.ensures.gives) in
    most_of_call c.serve_call.result _ _ _ _ _ (omega (arith, gives.stop, c.mark.ensures.stop, c.requires.at)) (omega (arith, gives.at, c.mark.ensures.at)) c.serve_call.ensures.most c.serve_call.ensures.early

pub returns-in-Call-clause-blames : goal.returns-in-Call-clause-blames
returns-in-Call-clause-blames g c =
    let gives = rw c.in-Call.is at (rw c.in-Ok-Some.field-0-is at c.in-Ok-Some.ensures.gives) in
    let faults = rw c.mark.ensures.source at gives.faults in
    blames_from _ _ _ _ c.serve_call.result faults c.serve_call.ensures.blames

pub returns-in-DgcAck-clause-shut : goal.returns-in-DgcAck-clause-shut
returns-in-DgcAck-clause-shut g c =
    let gives = rw c.in-DgcAck.is at (rw c.in-Ok-Some.field-0-is at c.in-Ok-Some.ensures.gives) in (
      ack_shut _ _ _ _ _ _ _ c.acknowledge.result c.acknowledge.ensures.acknowledges ∙ gives.shut ∙ ap (λ s. (g.S.Source.half s).shut) c.mark.ensures.source,
      ap (λ s. (g.K.Sink.half s.now).shut) c.acknowledge.ensures.frame.sink,
    )

pub returns-in-Call-clause-shut : goal.returns-in-Call-clause-shut
returns-in-Call-clause-shut g c =
    let gives = rw c.in-Call.is at (rw c.in-Ok-Some.field-0-is at c.in-Ok-Some.ensures.gives) in
    (c.serve_call.ensures.shut.0 ∙ gives.shut ∙ ap (λ s. (g.S.Source.half s).shut) c.mark.ensures.source, c.serve_call.ensures.shut.1)
