use Rattle.std.proofs.lemmas.Result.{err_from_is_err_and}
use Rattle.journal.proofs.OnlyAsks.{only_open}
use Rattle.journal.proofs.asks.read_open.Goals as goal

pub returns-in_err-kind : goal.returns-in_err-kind
returns-in_err-kind c = let p = err_from_is_err_and c.from_residual.result c.from_residual.ensures.1 in
    rw (p.1, p.2) (λ is ask spells. only_open c.args.space c.args.words ask spells (λ kind pinned same. c.in_err-kind.ensures {u = tt} is (kind, record { 0 = pinned })))
