use Rattle.std.proofs.Common.{sym, ap, refl, inr}
use Rattle.wire_io.specs.Pulled.{pull_state}
use Rattle.call_dispatch.specs.ConnectionState.{observed_of}
use Rattle.system_objects.specs.Terms.{terms_of}
use Rattle.call_dispatch.proofs.SystemTurns.{unknown_answers, read_answers}
use Rattle.call_dispatch.proofs.dispatch.call_system_object.Goals as goal

pub returns-in_default-clause-answers : goal.returns-in_default-clause-answers
returns-in_default-clause-answers g c first reads =
    unknown_answers g.W.Worker.may g.W.Worker.moves (terms_of c.args.connection.now.book.now c.args.connection.now.setup.now) c.args.head first (pull_state g.S.Source.half c.args.connection.now.pull) c.args.reader.stand (observed_of g.C.Clock.given g.P.Port.shown g.W.Worker.shown c.args.connection.now) c.args.connection.now.setup.now.draw.drawn _ c.refuse.result
    (sym c.in_default.ensures) reads (ap (λ s. s.draw.drawn) c.refuse.ensures.drawn) (rw c.no_such_method.ensures at c.refuse.ensures.prepared)

pub returns-in-Ok-clause-answers : goal.returns-in-Ok-clause-answers
returns-in-Ok-clause-answers g c first reads =
    let takes = rw c.params_of.ensures at c.in-Ok.ensures.call first c.args.head reads in
    rw c.answer_method.ensures.pull (read_answers g.W.Worker.may g.W.Worker.moves (terms_of c.args.connection.now.book.now c.args.connection.now.setup.now) c.args.head takes.message first _ (observed_of g.C.Clock.given g.P.Port.shown g.W.Worker.shown c.args.connection.now) (observed_of g.C.Clock.given g.P.Port.shown g.W.Worker.shown c.answer_method.new.connection) c.args.connection.now.setup.now.draw.drawn c.answer_method.new.connection.setup.now.draw.drawn c.answer_method.result takes.takes (c.answer_method.ensures.answers c.args.head takes.message (sym c.in-Some.ensures) takes.call))

pub returns-in-Err-clause-answers : goal.returns-in-Err-clause-answers
returns-in-Err-clause-answers g c first reads =
    inr (
      refl,
      refl,
      (
        pull_state g.S.Source.half c.args.connection.now.pull,
        c.args.reader.stand,
        c.in-Some.method,
        c.in-Err.fault,
        reads,
        sym c.in-Some.ensures,
        rw c.params_of.ensures at c.in-Err.ensures.stops,
        c.end_of.ensures,
      ),
    )
