use Rattle.std.proofs.lemmas.Result.{err_from_is_err_and}
use Rattle.journal.proofs.OnlyAsks.{only_abandon}
use Rattle.journal.proofs.asks.read_abandon.Goals as goal

pub returns-in_err-object : goal.returns-in_err-object
returns-in_err-object c = let p = err_from_is_err_and c.from_residual.result c.from_residual.ensures.1 in
    rw (p.1, p.2) (λ is ask spells. only_abandon c.args.space c.args.words ask spells (λ object same. c.in_err-object.ensures {u = tt} is object))
