use Rattle.std.proofs.Common.{◌++◌, List, ℕ, flat_map, map, ap, sym, subst, ◌∙◌}
use Rattle.std.specs.List.{AllByRecursion, join_with_byte}
use Rattle.std.proofs.lemmas.Result.{on_ok_weaker, on_err_weaker}
use Rattle.journal.specs.declared.outline.Word.{Word}
use Rattle.journal.specs.Rows.{word_text, further_text, WordFits}
use Rattle.journal.proofs.Fronts.{front_last, then_more, joined_further}
use Rattle.journal.proofs.outline.put_words.Goals as goal

pub returns-clause-ok : goal.returns-clause-ok
returns-clause-ok c =
    let text = word_text in let further = further_text in
    let whole = ap (λ (ws : List Word). join_with_byte 32 (map text ws)) c.in-Some.ensures.cases.0 ∙ joined_further 32 text c.in-Some.first.now c.in-Some.others.now in
    on_ok_weaker c.put_further_words.result (λ last.
    then_more c.args.out.now (text c.in-Some.first.now) c.put_word.new.out (flat_map further c.in-Some.others.now) c.put_further_words.new.out (c.in_ok-put_word.ensures {u = tt}).ok last
    ∙ ap (λ (t : List ℕ). c.args.out.now ++ t) (sym whole)) c.put_further_words.ensures.ok

pub returns-clause-err : goal.returns-clause-err
returns-clause-err c =
    let text = word_text in let further = further_text in
    let whole = ap (λ (ws : List Word). join_with_byte 32 (map text ws)) c.in-Some.ensures.cases.0 ∙ joined_further 32 text c.in-Some.first.now c.in-Some.others.now in
    on_err_weaker c.put_further_words.result (front_last c.args.out.now (text c.in-Some.first.now) (flat_map further c.in-Some.others.now) c.put_word.new.out c.put_further_words.new.out
    (join_with_byte 32 (map text c.args.words.now)) (c.in_ok-put_word.ensures {u = tt}).ok whole) c.put_further_words.ensures.err

pub returns-clause-fits : goal.returns-clause-fits
returns-clause-fits c =
    on_ok_weaker c.put_further_words.result (λ others. subst (AllByRecursion WordFits) (sym c.in-Some.ensures.cases.0) ((c.in_ok-put_word.ensures {u = tt}).fits, others)) c.put_further_words.ensures.fits
