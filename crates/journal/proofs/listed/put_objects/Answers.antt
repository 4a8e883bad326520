use Rattle.std.proofs.Common.{◌++◌, List, ℕ, flat_map, ap, sym, subst, ◌∙◌}
use Rattle.std.proofs.lemmas.Result.{on_ok_weaker, on_err_weaker}
use Rattle.history.specs.Texts.{object_text}
use Rattle.journal.specs.Written.{objects_text, further_object, AreObjects}
use Rattle.journal.proofs.Fronts.{on_err, front_first, front_last, then_more, joined_further}
use Rattle.journal.proofs.listed.put_objects.Goals as goal

pub returns-clause-ok : goal.returns-clause-ok
returns-clause-ok c =
    let text = object_text c.args.space in let further = further_object c.args.space in
    let whole = ap (objects_text c.args.space) c.in-Some.ensures.cases.0 ∙ joined_further 44 text c.in-Some.first.now c.in-Some.others.now in
    on_ok_weaker c.put_further_objects.result (λ last.
    then_more c.args.out.now (text c.in-Some.first.now) c.put_object.new.out (flat_map further c.in-Some.others.now) c.put_further_objects.new.out (c.in_ok-put_object.ensures {u = tt}).ok last
    ∙ ap (λ (t : List ℕ). c.args.out.now ++ t) (sym whole)) c.put_further_objects.ensures.ok

pub returns-clause-err : goal.returns-clause-err
returns-clause-err c =
    let text = object_text c.args.space in let further = further_object c.args.space in
    let whole = ap (objects_text c.args.space) c.in-Some.ensures.cases.0 ∙ joined_further 44 text c.in-Some.first.now c.in-Some.others.now in
    on_err_weaker c.put_further_objects.result (front_last c.args.out.now (text c.in-Some.first.now) (flat_map further c.in-Some.others.now) c.put_object.new.out c.put_further_objects.new.out
    (objects_text c.args.space c.args.objects.now) (c.in_ok-put_object.ensures {u = tt}).ok whole) c.put_further_objects.ensures.err

pub returns-in_err-put_object-clause-err : goal.returns-in_err-put_object-clause-err
returns-in_err-put_object-clause-err c =
    let text = object_text c.args.space in let further = further_object c.args.space in
    let whole = ap (objects_text c.args.space) c.in-Some.ensures.cases.0 ∙ joined_further 44 text c.in-Some.first.now c.in-Some.others.now in
    on_err c.from_residual.result (front_first c.args.out.now (text c.in-Some.first.now) (flat_map further c.in-Some.others.now) c.put_object.new.out
    (objects_text c.args.space c.args.objects.now) whole (c.in_err-put_object.ensures {u = tt}).err)

pub returns-clause-fits : goal.returns-clause-fits
returns-clause-fits c =
    on_ok_weaker c.put_further_objects.result (λ others. subst AreObjects (sym c.in-Some.ensures.cases.0) ((c.in_ok-put_object.ensures {u = tt}).fits, others)) c.put_further_objects.ensures.fits
