use Rattle.std.proofs.Common.{w32, w64, rules}
use Rattle.std.specs.Int.{w16}
use Rattle.std.specs.Prelude.{FitsSigned}
use Rattle.std.proofs.lemmas.Result.{on_err_weaker}
use Rattle.journal.proofs.Joined.{other_space}
use Rattle.journal.proofs.Fronts.{on_ok}
use Rattle.journal.proofs.put.put_object.Goals as goal

pub returns-else-is_same-clause-err : goal.returns-else-is_same-clause-err
returns-else-is_same-clause-err c =
    let differ = other_space c.args.space c.args.object (λ same. let true_then = c.is_same.ensures.1 same in cc) in
    on_err_weaker c.put_long_object.result (λ refused. rw differ refused) c.put_long_object.ensures.err

pub returns-then-is_same-clause-fits : goal.returns-then-is_same-clause-fits
returns-then-is_same-clause-fits c =
    let number : FitsSigned w64 c.args.object.number = search rules in
    let unique : FitsSigned w32 c.args.object.space.unique = search rules in
    let time : FitsSigned w64 c.args.object.space.time = search rules in
    let count : FitsSigned w16 c.args.object.space.count = search rules in
    on_ok c.put_signed.result (record { number = number; space = record { unique = unique; time = time; count = count } })
