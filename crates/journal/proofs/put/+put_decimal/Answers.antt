use Rattle.std.proofs.Common.{ℕ, ◌+◌, ◌/◌, ◌%◌, List, [], ◌∷◌, ◌++◌, ap, sym, ◌∙◌, arith}
use Rattle.std.specs.Fmt.{decimal}
use Rattle.std.proofs.lemmas.Fmt.{decimal_digit, decimal_step}
use Rattle.std.proofs.lemmas.Result.{on_ok_weaker, on_err_weaker}
use Rattle.journal.proofs.Fronts.{on_err, front_first, front_stops, then_more}
use Rattle.journal.proofs.put.+put_decimal.Goals as goal

pub returns-then-n-lt10-clause-ok : goal.returns-then-n-lt10-clause-ok
returns-then-n-lt10-clause-ok t c = on_ok_weaker c.push.result (λ pushed. pushed ∙ ap (λ (ds : List ℕ). c.args.out.now ++ ds) (sym (decimal_digit c.args.n c.if-n-lt10.true))) c.push.ensures.ok

pub returns-in_err-put_decimal-clause-err : goal.returns-in_err-put_decimal-clause-err
returns-in_err-put_decimal-clause-err t c =
    let step = decimal_step c.args.n c.if-n-lt10.false (omega (arith, c.ranges.n)) in
    on_err c.from_residual.result (front_first c.args.out.now (decimal (c.args.n / 10)) ((48 + c.args.n % 10) ∷ []) c.put_decimal.new.out (decimal c.args.n)
    step (c.in_err-put_decimal.ensures {u = tt}).err)

pub returns-clause-ok : goal.returns-clause-ok
returns-clause-ok t c =
    let step = decimal_step c.args.n c.if-n-lt10.false (omega (arith, c.ranges.n)) in
    on_ok_weaker c.push-2.result (λ pushed.
    then_more c.args.out.now (decimal (c.args.n / 10)) c.put_decimal.new.out ((48 + c.args.n % 10) ∷ []) c.push-2.new.self (c.in_ok-put_decimal.ensures {u = tt}).ok pushed
    ∙ ap (λ (ds : List ℕ). c.args.out.now ++ ds) (sym step)) c.push-2.ensures.ok

pub returns-clause-err : goal.returns-clause-err
returns-clause-err t c =
    let step = decimal_step c.args.n c.if-n-lt10.false (omega (arith, c.ranges.n)) in
    on_err_weaker c.push-2.result (λ kept.
    front_stops c.args.out.now (decimal (c.args.n / 10)) ((48 + c.args.n % 10) ∷ []) c.push-2.new.self (decimal c.args.n) (kept ∙ (c.in_ok-put_decimal.ensures {u = tt}).ok) step) c.push-2.ensures.err
