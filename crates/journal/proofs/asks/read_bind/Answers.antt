use Rattle.std.proofs.lemmas.Result.{err_from_is_err_and}
use Rattle.journal.proofs.OnlyAsks.{only_bind}
use Rattle.journal.proofs.asks.read_bind.Goals as goal

pub returns-in_err-name : goal.returns-in_err-name
returns-in_err-name c = let p = err_from_is_err_and c.from_residual.result c.from_residual.ensures.1 in
    rw (p.1, p.2) (λ is ask spells. only_bind c.args.space c.args.words ask spells (λ name object same. c.in_err-name.ensures {u = tt} is (name, object)))
