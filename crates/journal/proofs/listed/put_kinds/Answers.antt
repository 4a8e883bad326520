use Rattle.std.proofs.Common.{◌++◌, List, ℕ, flat_map, ap, sym, ◌∙◌}
use Rattle.std.specs.Prelude.{decimal}
use Rattle.std.proofs.lemmas.Result.{on_ok_weaker, on_err_weaker}
use Rattle.journal.specs.Written.{list_text, further_kind}
use Rattle.journal.proofs.Fronts.{on_err, front_first, front_last, then_more, joined_further}
use Rattle.journal.proofs.listed.put_kinds.Goals as goal

pub returns-clause-ok : goal.returns-clause-ok
returns-clause-ok c =
    let whole = ap (list_text decimal) c.in-Some.ensures.cases.0 ∙ joined_further 44 decimal c.in-Some.first.now c.in-Some.others.now in
    on_ok_weaker c.put_further_kinds.result (λ last.
    then_more c.args.out.now (decimal c.in-Some.first.now) c.put_decimal.new.out (flat_map further_kind c.in-Some.others.now) c.put_further_kinds.new.out (rw c.from.ensures at (c.in_ok-put_decimal.ensures {u = tt}).ok) last
    ∙ ap (λ (t : List ℕ). c.args.out.now ++ t) (sym whole)) c.put_further_kinds.ensures.ok

pub returns-clause-err : goal.returns-clause-err
returns-clause-err c =
    let whole = ap (list_text decimal) c.in-Some.ensures.cases.0 ∙ joined_further 44 decimal c.in-Some.first.now c.in-Some.others.now in
    on_err_weaker c.put_further_kinds.result (front_last c.args.out.now (decimal c.in-Some.first.now) (flat_map further_kind c.in-Some.others.now) c.put_decimal.new.out c.put_further_kinds.new.out
    (list_text decimal c.args.kinds.now) (rw c.from.ensures at (c.in_ok-put_decimal.ensures {u = tt}).ok) whole) c.put_further_kinds.ensures.err

pub returns-in_err-put_decimal-clause-err : goal.returns-in_err-put_decimal-clause-err
returns-in_err-put_decimal-clause-err c =
    let whole = ap (list_text decimal) c.in-Some.ensures.cases.0 ∙ joined_further 44 decimal c.in-Some.first.now c.in-Some.others.now in
    on_err c.from_residual.result (front_first c.args.out.now (decimal c.in-Some.first.now) (flat_map further_kind c.in-Some.others.now) c.put_decimal.new.out
    (list_text decimal c.args.kinds.now) whole (rw c.from.ensures at (c.in_err-put_decimal.ensures {u = tt}).err))
