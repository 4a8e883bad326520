use Rattle.std.proofs.lemmas.Result.{on_ok_weaker, on_err_weaker}
use Rattle.journal.proofs.Fronts.{on_err}
use Rattle.journal.proofs.Written.{event_written, event_first, event_second, event_third}
use Rattle.journal.proofs.write.put_event.Goals as goal

pub returns-in_err-put_leading-clause-err : goal.returns-in_err-put_leading-clause-err
returns-in_err-put_leading-clause-err c =
    on_err c.from_residual.result (event_first c.args.space c.args.event.now c.args.out.now c.put_leading.new.out (rw c.from.ensures at (c.in_err-put_leading.ensures {u = tt}).err))

pub returns-in_err-put_leading-2-clause-err : goal.returns-in_err-put_leading-2-clause-err
returns-in_err-put_leading-2-clause-err c =
    on_err c.from_residual-in_err-put_leading-2.result (event_second c.args.space c.args.event.now c.args.out.now c.put_leading.new.out c.put_leading-2.new.out
    (rw c.from.ensures at (c.in_ok-put_leading.ensures {u = tt}).ok) (c.in_err-put_leading-2.ensures {u = tt}).err)

pub returns-clause-ok : goal.returns-clause-ok
returns-clause-ok c = on_ok_weaker c.put_ask.result (λ last.
    event_written c.args.space c.args.event.now c.args.out.now c.put_leading.new.out c.put_leading-2.new.out c.put_ask.new.out
    (rw c.from.ensures at (c.in_ok-put_leading.ensures {u = tt}).ok) (c.in_ok-put_leading-2.ensures {u = tt}).ok last) c.put_ask.ensures.ok

pub returns-clause-err : goal.returns-clause-err
returns-clause-err c = on_err_weaker c.put_ask.result (event_third c.args.space c.args.event.now c.args.out.now c.put_leading.new.out c.put_leading-2.new.out c.put_ask.new.out
    (rw c.from.ensures at (c.in_ok-put_leading.ensures {u = tt}).ok) (c.in_ok-put_leading-2.ensures {u = tt}).ok) c.put_ask.ensures.err
