use Rattle.std.proofs.lemmas.Result.{err_from_is_err_and}
use Rattle.journal.proofs.OnlyAsks.{only_clean}
use Rattle.journal.proofs.asks.read_clean.Goals as goal

pub returns-in_err-client : goal.returns-in_err-client
returns-in_err-client c = let p = err_from_is_err_and c.from_residual.result c.from_residual.ensures.1 in
    rw (p.1, p.2) (λ is ask spells. only_clean c.args.space c.args.words ask spells (λ client number objects strong same. c.in_err-client.ensures {u = tt} is (client, number, record { 0 = strong }, objects)))
