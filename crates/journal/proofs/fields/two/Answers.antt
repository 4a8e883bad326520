use Rattle.std.proofs.lemmas.Result.{err_from_is_err_and}
use Rattle.journal.specs.Grammar.{◌▸◌, End}
use Rattle.journal.proofs.Refusing.{first_fails, rest_fails}
use Rattle.journal.proofs.fields.two.Goals as goal

pub returns-in_err-a : goal.returns-in_err-a
returns-in_err-a g c = let p = err_from_is_err_and c.from_residual.result c.from_residual.ensures.1 in
    rw (p.1, p.2) (λ is a. first_fails (λ x. g.A.Field.spells c.args.space x) (g.B.Field.spells c.args.space a.1 ▸ End) c.args.words (c.in_err-a.ensures {u = tt} is) a.0)

pub returns-in_err-b : goal.returns-in_err-b
returns-in_err-b g c = let p = err_from_is_err_and c.from_residual-in_err-b.result c.from_residual-in_err-b.ensures.1 in
    rw (p.1, p.2) (λ is a. rest_fails (g.A.Field.spells c.args.space c.in_ok-a.a) (g.A.Field.spells c.args.space a.0) (g.B.Field.spells c.args.space a.1 ▸ End) c.args.words c.in_ok-a.rest (c.in_ok-a.ensures {u = tt}) (c.in_err-b.ensures {u = tt} is a.1))
