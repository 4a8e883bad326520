use Rattle.std.proofs.lemmas.Result.{err_from_is_err_and}
use Rattle.journal.proofs.OnlyAsks.{only_ack}
use Rattle.journal.proofs.asks.read_ack.Goals as goal

pub returns-in_err-uid : goal.returns-in_err-uid
returns-in_err-uid c = let p = err_from_is_err_and c.from_residual.result c.from_residual.ensures.1 in
    rw (p.1, p.2) (λ is ask spells. only_ack c.args.space c.args.words ask spells (λ uid same. c.in_err-uid.ensures {u = tt} is uid))
