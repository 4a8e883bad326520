use Rattle.std.proofs.Common.{◌∙◌, ap, refl, rules}
use Rattle.std.specs.Prelude.{FitsSigned}
use Rattle.std.specs.Int.{w16, w32, w64}
use Rattle.std.proofs.lemmas.Result.{err_from_is_err_and}
use Rattle.wire_io.specs.Pulled.{pull_state}
use Rattle.jrmp_frames.specs.Calls.{head_at}
use Rattle.call_dispatch.specs.Served.{FitsHead}
use Rattle.call_dispatch.proofs.CallSteps.{head_breaks, head_unread}
use Rattle.call_dispatch.proofs.SystemSteps.{any_done, any_ended, any_within, any_ended_blames, any_blames}
use Rattle.system_objects.specs.Terms.{terms_of}
use Rattle.call_dispatch.proofs.MessageSteps.{most_of}
use Rattle.call_dispatch.proofs.Blaming.{head_blames}
use Rattle.call_dispatch.proofs.Shutting.{answered_shut, broken_shut, ended_shut}
use Rattle.call_dispatch.proofs.messages.serve_call.Goals as goal

-- Nothing of the Call is read.
pub returns-then-sent-gt-MAX_BYTES-clause-serves : goal.returns-then-sent-gt-MAX_BYTES-clause-serves
returns-then-sent-gt-MAX_BYTES-clause-serves g c start first opening exchanges coded =
    let p = pull_state g.S.Source.half c.args.connection.now.pull in
    head_unread _ _ _ start first p _ _ _ _ opening exchanges coded c.args.connection.now.pull.within

pub returns-in-Err-clause-serves : goal.returns-in-Err-clause-serves
returns-in-Err-clause-serves g c start first opening exchanges coded =
    rw c.end_of.ensures (head_breaks _ _ _ start first (pull_state g.S.Source.half c.args.connection.now.pull) (pull_state g.S.Source.half c.read_head.new.pull) _ _ _ _ opening exchanges c.in-Err.fault
    coded c.read_head.new.pull.within c.in-Err.ensures.stops)

pub returns-in-Err-clause-blames : goal.returns-in-Err-clause-blames
returns-in-Err-clause-blames g c =
    rw c.end_of.ensures (head_blames head_at (g.K.Sink.half c.args.connection.now.sink.now).faults (pull_state g.S.Source.half c.args.connection.now.pull) (pull_state g.S.Source.half c.read_head.new.pull) c.in-Err.fault c.in-Err.ensures.stops)

pub returns-in_err-answer-in-Ok-clause-serves : goal.returns-in_err-answer-in-Ok-clause-serves
returns-in_err-answer-in-Ok-clause-serves g c start first opening exchanges coded =
    let number : FitsSigned w64 c.in-Ok.head.id.number = search rules in
    let unique : FitsSigned w32 c.in-Ok.head.id.space.unique = search rules in
    let time : FitsSigned w64 c.in-Ok.head.id.space.time = search rules in
    let count : FitsSigned w16 c.in-Ok.head.id.space.count = search rules in
    let operation : FitsSigned w32 c.in-Ok.head.operation = search rules in
    let hash : FitsSigned w64 c.in-Ok.head.hash = search rules in
    let fits : FitsHead c.in-Ok.head = record { number = number; unique = unique; time = time; count = count; operation = operation; hash = hash } in
    let p = err_from_is_err_and c.from_residual.result c.from_residual.ensures.1 in
    let start_place = pull_state g.S.Source.half c.args.connection.now.pull in
    rw (c.in_err-answer-in-Ok.ensures.sink, p.1, p.2) (any_ended g.W.Worker.may g.W.Worker.moves (terms_of c.args.connection.now.book.now c.args.connection.now.setup.now) start first start_place _ _ _ _ _ _ _ opening exchanges c.in-Ok.head _
    coded fits c.dispatch_call.new.connection.pull.within (c.in_err-answer-in-Ok.ensures.answers start_place c.in-Ok.ensures.reads))

pub returns-in_err-answer-in-Ok-clause-blames : goal.returns-in_err-answer-in-Ok-clause-blames
returns-in_err-answer-in-Ok-clause-blames g c =
    let p = err_from_is_err_and c.from_residual.result c.from_residual.ensures.1 in
    let start_place = pull_state g.S.Source.half c.args.connection.now.pull in
    rw (c.in_err-answer-in-Ok.ensures.sink, p.1, p.2) (any_ended_blames g.W.Worker.may g.W.Worker.moves (terms_of c.args.connection.now.book.now c.args.connection.now.setup.now) c.in-Ok.head start_place (pull_state g.S.Source.half c.dispatch_call.new.connection.pull) _ _ _ _ (g.K.Sink.half c.args.connection.now.sink.now).faults _ (c.in_err-answer-in-Ok.ensures.answers start_place c.in-Ok.ensures.reads))

pub returns-in_ok-answer-in-Ok-clause-serves : goal.returns-in_ok-answer-in-Ok-clause-serves
returns-in_ok-answer-in-Ok-clause-serves g c start first opening exchanges coded =
    let number : FitsSigned w64 c.in-Ok.head.id.number = search rules in
    let unique : FitsSigned w32 c.in-Ok.head.id.space.unique = search rules in
    let time : FitsSigned w64 c.in-Ok.head.id.space.time = search rules in
    let count : FitsSigned w16 c.in-Ok.head.id.space.count = search rules in
    let operation : FitsSigned w32 c.in-Ok.head.operation = search rules in
    let hash : FitsSigned w64 c.in-Ok.head.hash = search rules in
    let fits : FitsHead c.in-Ok.head = record { number = number; unique = unique; time = time; count = count; operation = operation; hash = hash } in
    let start_place = pull_state g.S.Source.half c.args.connection.now.pull in
    any_done g.W.Worker.may g.W.Worker.moves (terms_of c.args.connection.now.book.now c.args.connection.now.setup.now) start first start_place _ _ _ _ _ _ _ _ _ _ opening exchanges c.in-Ok.head c.in_ok-answer-in-Ok.answer c.send.result
    coded fits c.dispatch_call.new.connection.pull.within (c.in_ok-answer-in-Ok.ensures.answers start_place c.in-Ok.ensures.reads) (rw c.in_ok-answer-in-Ok.ensures.sink at c.send.ensures.sends)

pub returns-in_ok-answer-in-Ok-clause-blames : goal.returns-in_ok-answer-in-Ok-clause-blames
returns-in_ok-answer-in-Ok-clause-blames g c =
    let start_place = pull_state g.S.Source.half c.args.connection.now.pull in
    any_blames g.W.Worker.may g.W.Worker.moves (terms_of c.args.connection.now.book.now c.args.connection.now.setup.now) c.in-Ok.head start_place _ _ _ c.args.connection.now.setup.now.draw.drawn c.dispatch_call.new.connection.setup.now.draw.drawn _ _ _ _ _ c.in_ok-answer-in-Ok.answer c.send.result (c.in_ok-answer-in-Ok.ensures.answers start_place c.in-Ok.ensures.reads) (rw c.in_ok-answer-in-Ok.ensures.sink at c.send.ensures.sends)

pub returns-in_ok-answer-in-Ok-clause-most : goal.returns-in_ok-answer-in-Ok-clause-most
returns-in_ok-answer-in-Ok-clause-most g c =
    let start_place = pull_state g.S.Source.half c.args.connection.now.pull in
    most_of c.send.result _ _ _ (any_within g.W.Worker.may g.W.Worker.moves (terms_of c.args.connection.now.book.now c.args.connection.now.setup.now) c.in-Ok.head start_place _ _ _ c.args.connection.now.setup.now.draw.drawn c.dispatch_call.new.connection.setup.now.draw.drawn c.in_ok-answer-in-Ok.answer c.dispatch_call.new.connection.pull.within (c.in_ok-answer-in-Ok.ensures.answers start_place c.in-Ok.ensures.reads)) c.send.ensures.most

pub returns-in-Err-clause-shut : goal.returns-in-Err-clause-shut
returns-in-Err-clause-shut g c =
    (broken_shut head_at (pull_state g.S.Source.half c.args.connection.now.pull) (pull_state g.S.Source.half c.read_head.new.pull) c.in-Err.fault c.in-Err.ensures.stops, refl)

pub returns-in_err-answer-in-Ok-clause-shut : goal.returns-in_err-answer-in-Ok-clause-shut
returns-in_err-answer-in-Ok-clause-shut g c =
    let start_place = pull_state g.S.Source.half c.args.connection.now.pull in (
      ended_shut g.W.Worker.may g.W.Worker.moves (terms_of c.args.connection.now.book.now c.args.connection.now.setup.now) c.in-Ok.head start_place (pull_state g.S.Source.half c.dispatch_call.new.connection.pull) _ _ _ _ _ (c.in_err-answer-in-Ok.ensures.answers start_place c.in-Ok.ensures.reads),
      ap (λ s. (g.K.Sink.half s.now).shut) c.in_err-answer-in-Ok.ensures.sink,
    )

pub returns-in_ok-answer-in-Ok-clause-shut : goal.returns-in_ok-answer-in-Ok-clause-shut
returns-in_ok-answer-in-Ok-clause-shut g c =
    let start_place = pull_state g.S.Source.half c.args.connection.now.pull in (
      answered_shut g.W.Worker.may g.W.Worker.moves (terms_of c.args.connection.now.book.now c.args.connection.now.setup.now) c.in-Ok.head start_place (pull_state g.S.Source.half c.dispatch_call.new.connection.pull) _ _ c.args.connection.now.setup.now.draw.drawn c.dispatch_call.new.connection.setup.now.draw.drawn c.in_ok-answer-in-Ok.answer (c.in_ok-answer-in-Ok.ensures.answers start_place c.in-Ok.ensures.reads),
      c.send.ensures.sink_shut ∙ ap (λ s. (g.K.Sink.half s.now).shut) c.in_ok-answer-in-Ok.ensures.sink,
    )
