use Rattle.std.proofs.lemmas.Result.{err_from_is_err_and}
use Rattle.journal.specs.Grammar.{End}
use Rattle.journal.proofs.Refusing.{first_fails}
use Rattle.journal.proofs.fields.one.Goals as goal

pub returns-in_err-a : goal.returns-in_err-a
returns-in_err-a g c = let p = err_from_is_err_and c.from_residual.result c.from_residual.ensures.1 in
    rw (p.1, p.2) (λ is a. first_fails (λ x. g.A.Field.spells c.args.space x) End c.args.words (c.in_err-a.ensures {u = tt} is) a)
