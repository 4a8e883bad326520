use Rattle.std.proofs.Common.{◌∷◌, [], refl}
use Rattle.journal.specs.Written.{event_text, with_line_end}
use Rattle.journal.proofs.Fronts.{on_err, front_first}
use Rattle.journal.proofs.write.put_event_line.Goals as goal

pub returns-in_err-put_event-clause-err : goal.returns-in_err-put_event-clause-err
returns-in_err-put_event-clause-err c =
    let text = event_text c.args.space c.args.event.now in
    on_err c.from_residual.result (front_first c.args.out.now text (10 ∷ []) c.put_event.new.out (with_line_end text) refl (c.in_err-put_event.ensures {u = tt}).err)
