use Rattle.std.proofs.Common.{ℕ, ℤ, List, [], ◌∷◌, ◌++◌, refl, ap, sym, ◌∙◌, append_assoc, append-nil, w32, w64, rules}
use Rattle.std.specs.Prelude.{FitsSigned}
use Rattle.std.specs.Int.{w16}
use Rattle.std.specs.Fmt.{signed_decimal}
use Rattle.std.proofs.lemmas.Int.{to_z-of_z}
use Rattle.std.proofs.lemmas.Result.{on_ok_weaker, on_err_weaker}
use Rattle.journal.proofs.Fronts.{on_ok, on_err, front_at, then_more, widened}
use Rattle.journal.proofs.put.put_uid.Goals as goal

pub returns-in_err-put_after_slash-clause-err : goal.returns-in_err-put_after_slash-clause-err
returns-in_err-put_after_slash-clause-err c =
    let out = c.args.out.now in
    let u = signed_decimal c.args.uid.unique in let t = signed_decimal c.args.uid.time in let n = signed_decimal c.args.uid.count in
    let fits_u : FitsSigned w32 c.args.uid.unique = search rules in
    let fits_t : FitsSigned w64 c.args.uid.time = search rules in
    let one = (c.in_ok-put_signed.ensures {u = tt}).ok ∙ ap (λ (z : ℤ). out ++ signed_decimal z) (widened w32 c.args.uid.unique fits_u tt) in
    let refused = rw (to_z-of_z w64 c.args.uid.time fits_t) at (c.in_err-put_after_slash.ensures {u = tt}).err in
    on_err c.from_residual-in_err-put_after_slash.result
    (front_at out u (47 ∷ t) (47 ∷ n) c.put_signed.new.out c.put_after_slash.new.out (u ++ 47 ∷ (t ++ 47 ∷ n)) one refl refused)

pub returns-clause-ok : goal.returns-clause-ok
returns-clause-ok c =
    let out = c.args.out.now in
    let u = signed_decimal c.args.uid.unique in let t = signed_decimal c.args.uid.time in let n = signed_decimal c.args.uid.count in
    let fits_u : FitsSigned w32 c.args.uid.unique = search rules in
    let fits_t : FitsSigned w64 c.args.uid.time = search rules in
    let one = (c.in_ok-put_signed.ensures {u = tt}).ok ∙ ap (λ (z : ℤ). out ++ signed_decimal z) (widened w32 c.args.uid.unique fits_u tt) in
    let fits_n : FitsSigned w16 c.args.uid.count = search rules in
    let two = then_more out u c.put_signed.new.out (47 ∷ t) c.put_after_slash.new.out one
    ((c.in_ok-put_after_slash.ensures {u = tt}).ok ∙ ap (λ (z : ℤ). c.put_signed.new.out ++ 47 ∷ signed_decimal z) (to_z-of_z w64 c.args.uid.time fits_t)) in
    on_ok_weaker c.put_after_slash-2.result (λ last.
    then_more out (u ++ 47 ∷ t) c.put_after_slash.new.out (47 ∷ n) c.put_after_slash-2.new.out two
    (last ∙ ap (λ (z : ℤ). c.put_after_slash.new.out ++ 47 ∷ signed_decimal z) (widened w16 c.args.uid.count fits_n tt))
    ∙ ap (λ (x : List ℕ). out ++ x) (append_assoc u (47 ∷ t) (47 ∷ n))) c.put_after_slash-2.ensures.ok

pub returns-clause-err : goal.returns-clause-err
returns-clause-err c =
    let out = c.args.out.now in
    let u = signed_decimal c.args.uid.unique in let t = signed_decimal c.args.uid.time in let n = signed_decimal c.args.uid.count in
    let fits_u : FitsSigned w32 c.args.uid.unique = search rules in
    let fits_t : FitsSigned w64 c.args.uid.time = search rules in
    let one = (c.in_ok-put_signed.ensures {u = tt}).ok ∙ ap (λ (z : ℤ). out ++ signed_decimal z) (widened w32 c.args.uid.unique fits_u tt) in
    let fits_n : FitsSigned w16 c.args.uid.count = search rules in
    let two = then_more out u c.put_signed.new.out (47 ∷ t) c.put_after_slash.new.out one
    ((c.in_ok-put_after_slash.ensures {u = tt}).ok ∙ ap (λ (z : ℤ). c.put_signed.new.out ++ 47 ∷ signed_decimal z) (to_z-of_z w64 c.args.uid.time fits_t)) in
    let refused = rw (widened w16 c.args.uid.count fits_n tt) at c.put_after_slash-2.ensures.err in
    on_err_weaker c.put_after_slash-2.result (front_at out (u ++ 47 ∷ t) (47 ∷ n) [] c.put_after_slash.new.out c.put_after_slash-2.new.out (u ++ 47 ∷ (t ++ 47 ∷ n)) two
    (sym (append_assoc u (47 ∷ t) (47 ∷ n)) ∙ ap (λ (x : List ℕ). (u ++ 47 ∷ t) ++ 47 ∷ x) (sym (append-nil n)))) refused

pub returns-clause-fits : goal.returns-clause-fits
returns-clause-fits c =
    let unique : FitsSigned w32 c.args.uid.unique = search rules in
    let time : FitsSigned w64 c.args.uid.time = search rules in
    let count : FitsSigned w16 c.args.uid.count = search rules in
    on_ok c.put_after_slash-2.result (record { unique = unique; time = time; count = count })
