use Rattle.std.proofs.Common.{◌∷◌, [], ◌++◌, decimal, refl}
use Rattle.journal.proofs.Fronts.{on_err, front_first}
use Rattle.journal.proofs.write.put_leading.Goals as goal

pub returns-in_err-put_decimal-clause-err : goal.returns-in_err-put_decimal-clause-err
returns-in_err-put_decimal-clause-err c =
    on_err c.from_residual.result (front_first c.args.out.now (decimal c.args.n) (32 ∷ []) c.put_decimal.new.out (decimal c.args.n ++ 32 ∷ []) refl (c.in_err-put_decimal.ensures {u = tt}).err)
