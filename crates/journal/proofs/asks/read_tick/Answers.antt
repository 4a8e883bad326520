use Rattle.std.proofs.lemmas.Result.{err_from_is_err_and}
use Rattle.journal.proofs.OnlyAsks.{only_tick}
use Rattle.journal.proofs.asks.read_tick.Goals as goal

pub returns-in_err-none : goal.returns-in_err-none
returns-in_err-none c = let p = err_from_is_err_and c.from_residual.result c.from_residual.ensures.1 in
    rw (p.1, p.2) (λ is ask spells. only_tick c.args._space c.args.words ask spells (λ same. c.in_err-none.ensures {u = tt} is tt))
