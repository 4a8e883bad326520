use Rattle.std.proofs.Common.{◌≡◌, ◌+◌, ◌∙◌, ap, arith}
use Rattle.object_ids.specs.Draw.{uid_drawn}
use Rattle.system_objects.specs.SystemRequests.{client_draws}
use Rattle.call_dispatch.specs.ConnectionState.{observed_of}
use Rattle.call_dispatch.specs.Systems.{drawn_at}
use Rattle.system_objects.specs.Terms.{terms_of}
use Rattle.system_objects.proofs.SystemAsks.{request_quiet, request_is, is_barred, is_asked, is_asked_for_new, without_return}
use Rattle.call_dispatch.proofs.SystemTurns.{read_unbegun, read_barred, read_asked}
use Rattle.call_dispatch.proofs.dispatch.answer_method.Goals as goal

pub returns-in-Ok-Rejected-clause-answers : goal.returns-in-Ok-Rejected-clause-answers
returns-in-Ok-Rejected-clause-answers g c head bytes known call =
    let old = c.args.connection.now.setup.now in
    let is = is_barred _ _ c.in-Ok-Rejected.rejection (rw c.in-Ok-Rejected.field-0-is at c.in-Ok-Rejected.ensures) in
    let drew : c.next_uid-first.new.setup.draw.drawn ≡ old.draw.drawn + (client_draws c.args.method c.args.arguments + 1) = (let e = ap (λ s. s.draw.drawn) c.next_uid-first.ensures.drawn in omega (arith, e, is.1)) in
    let here : old.draw.drawn ≡ old.draw.drawn + client_draws c.args.method c.args.arguments = omega (arith, is.1) in
    let uid_is = c.next_uid-first.ensures.uid ∙ ap (drawn_at (terms_of c.args.connection.now.book.now old)) here in
    let same = ap (λ s. terms_of c.args.connection.now.book.now s) c.next_uid-first.ensures.drawn in
    let demands = request_is c.args.connection.now.book.now old c.next_uid-first.new.setup c.args.method c.args.arguments _ _ _ _ same c.next_uid-first.ensures.uid is.0 in
    read_barred g.W.Worker.may g.W.Worker.moves (terms_of c.args.connection.now.book.now old) head bytes c.args.method c.args.arguments c.in-Ok-Rejected.rejection _ (observed_of g.C.Clock.given g.P.Port.shown g.W.Worker.shown c.args.connection.now) old.draw.drawn _ c.fault_answer.result known call uid_is demands drew (rw c.rejection_message.ensures at c.fault_answer.ensures.prepared)

pub turn_and_return-requires-clause-quiet : goal.turn_and_return-requires-clause-quiet
turn_and_return-requires-clause-quiet g c =
    let is = is_asked _ _ c.in-Ok-Asks.ask c.in-Ok-Asks.kept (rw c.in-Ok-Asks.field-0-is at c.in-Ok-Asks.ensures) in
    request_quiet _ c.args.method c.args.arguments _ _ c.in-Ok-Asks.ask is.0

pub returns-in-Ok-Asks-clause-answers : goal.returns-in-Ok-Asks-clause-answers
returns-in-Ok-Asks-clause-answers g c head bytes known call =
    let old = c.args.connection.now.setup.now in
    let is = is_asked _ _ c.in-Ok-Asks.ask c.in-Ok-Asks.kept (rw c.in-Ok-Asks.field-0-is at c.in-Ok-Asks.ensures) in
    let drew : c.next_uid-first.new.setup.draw.drawn ≡ old.draw.drawn + (client_draws c.args.method c.args.arguments + 1) = (let e = ap (λ s. s.draw.drawn) c.next_uid-first.ensures.drawn in omega (arith, e, is.2)) in
    let here : old.draw.drawn ≡ old.draw.drawn + client_draws c.args.method c.args.arguments = omega (arith, is.2) in
    let uid_is = c.next_uid-first.ensures.uid ∙ ap (drawn_at (terms_of c.args.connection.now.book.now old)) here in
    let same = ap (λ s. terms_of c.args.connection.now.book.now s) c.next_uid-first.ensures.drawn in
    let demands = request_is c.args.connection.now.book.now old c.next_uid-first.new.setup c.args.method c.args.arguments _ _ _ _ same c.next_uid-first.ensures.uid is.0 in
    read_asked g.W.Worker.may g.W.Worker.moves (terms_of c.args.connection.now.book.now old) head bytes c.args.method c.args.arguments c.in-Ok-Asks.ask _ (observed_of g.C.Clock.given g.P.Port.shown g.W.Worker.shown c.args.connection.now) _ old.draw.drawn _ c.turn_and_return.result known call uid_is demands (ap (λ s. s.now.draw.drawn) c.turn_and_return.ensures.frame.only.setup ∙ drew) (rw c.next_uid-first.ensures.drawn at c.turn_and_return.ensures.asks)

pub turn_and_return-requires-in-Ok-AsksForNew-clause-quiet : goal.turn_and_return-requires-in-Ok-AsksForNew-clause-quiet
turn_and_return-requires-in-Ok-AsksForNew-clause-quiet g c =
    let is = is_asked_for_new _ _ c.in-Ok-AsksForNew.ask c.in-Ok-AsksForNew.kept (rw c.in-Ok-AsksForNew.field-0-is at c.in-Ok-AsksForNew.ensures) in
    request_quiet _ c.args.method c.args.arguments _ _ c.in-Ok-AsksForNew.ask is.0

pub returns-in-Ok-AsksForNew-clause-answers : goal.returns-in-Ok-AsksForNew-clause-answers
returns-in-Ok-AsksForNew-clause-answers g c head bytes known call =
    let old = c.args.connection.now.setup.now in
    let is = is_asked_for_new _ _ c.in-Ok-AsksForNew.ask c.in-Ok-AsksForNew.kept (rw c.in-Ok-AsksForNew.field-0-is at c.in-Ok-AsksForNew.ensures) in
    let drew : c.next_uid-uid.new.setup.draw.drawn ≡ old.draw.drawn + (client_draws c.args.method c.args.arguments + 1) =
    (let e = ap (λ s. s.draw.drawn) c.next_uid-first.ensures.drawn in let f = ap (λ s. s.draw.drawn) c.next_uid-uid.ensures.drawn in omega (arith, e, f, is.2)) in
    let here : old.draw.drawn + 1 ≡ old.draw.drawn + client_draws c.args.method c.args.arguments = omega (arith, is.2) in
    let uid_is = c.next_uid-uid.ensures.uid ∙ ap (λ s. uid_drawn s.draw.unique s.draw.time s.draw.drawn) c.next_uid-first.ensures.drawn ∙ ap (drawn_at (terms_of c.args.connection.now.book.now old)) here in
    let same = ap (λ s. terms_of c.args.connection.now.book.now s) c.next_uid-first.ensures.drawn in
    let demands = without_return (terms_of c.args.connection.now.book.now old) c.args.method c.args.arguments _ c.next_uid-uid.result c.next_uid-first.result is.2
    ∙ request_is c.args.connection.now.book.now old c.next_uid-first.new.setup c.args.method c.args.arguments _ _ _ _ same c.next_uid-first.ensures.uid is.0 in
    read_asked g.W.Worker.may g.W.Worker.moves (terms_of c.args.connection.now.book.now old) head bytes c.args.method c.args.arguments c.in-Ok-AsksForNew.ask _ (observed_of g.C.Clock.given g.P.Port.shown g.W.Worker.shown c.args.connection.now) _ old.draw.drawn _ c.turn_and_return-in-Ok-AsksForNew.result known call uid_is demands (ap (λ s. s.now.draw.drawn) c.turn_and_return-in-Ok-AsksForNew.ensures.frame.only.setup ∙ drew) (rw (c.next_uid-uid.ensures.drawn, c.next_uid-first.ensures.drawn) at c.turn_and_return-in-Ok-AsksForNew.ensures.asks)

pub returns-clause-answers : goal.returns-clause-answers
returns-clause-answers g c head bytes known call =
    let old = c.args.connection.now.setup.now in
    let drew : c.next_uid-first.new.setup.draw.drawn ≡ old.draw.drawn + 1 = ap (λ s. s.draw.drawn) c.next_uid-first.ensures.drawn in
    read_unbegun g.W.Worker.may g.W.Worker.moves (terms_of c.args.connection.now.book.now old) head bytes c.args.method c.args.arguments (observed_of g.C.Clock.given g.P.Port.shown g.W.Worker.shown c.args.connection.now) old.draw.drawn _ 1 known call drew (omega arith)
