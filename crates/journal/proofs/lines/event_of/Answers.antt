use Rattle.std.proofs.lemmas.Result.{err_from_is_err_and}
use Rattle.journal.specs.Grammar.{◌▸◌, SpellsNumber, SpellsMoment, SpellsAsk}
use Rattle.journal.proofs.Refusing.{first_fails, rest_fails}
use Rattle.journal.proofs.lines.event_of.Goals as goal

pub returns-in_err-by : goal.returns-in_err-by
returns-in_err-by c = let p = err_from_is_err_and c.from_residual.result c.from_residual.ensures.1 in
    rw (p.1, p.2) (λ is event. first_fails SpellsNumber (SpellsMoment event.moment ▸ SpellsAsk c.args.space event.ask) c.args.words (c.in_err-by.ensures {u = tt} is) event.by)

pub returns-in_err-moment : goal.returns-in_err-moment
returns-in_err-moment c = let p = err_from_is_err_and c.from_residual-in_err-moment.result c.from_residual-in_err-moment.ensures.1 in
    rw (p.1, p.2) (λ is event. rest_fails (SpellsNumber c.in_ok-by.by) (SpellsNumber event.by) (SpellsMoment event.moment ▸ SpellsAsk c.args.space event.ask)
    c.args.words c.in_ok-by.words (c.in_ok-by.ensures {u = tt})
    (first_fails (λ m. SpellsMoment m.0) (SpellsAsk c.args.space event.ask) c.in_ok-by.words (c.in_err-moment.ensures {u = tt} is) (record { 0 = event.moment })))
