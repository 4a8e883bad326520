use Rattle.std.proofs.Common.{ℤ, ◌∷◌, [], ◌++◌, refl, ap, ◌∙◌, append_assoc, w64, rules}
use Rattle.std.specs.Prelude.{FitsSigned}
use Rattle.std.specs.Fmt.{signed_decimal}
use Rattle.std.proofs.lemmas.Int.{to_z-of_z}
use Rattle.std.proofs.lemmas.Result.{on_ok_weaker, on_err_weaker}
use Rattle.history.specs.Texts.{uid_text}
use Rattle.journal.specs.Grammar.{long_text}
use Rattle.journal.proofs.Fronts.{on_err, front_first, front_last, then_more}
use Rattle.journal.proofs.put.put_long_object.Goals as goal

pub returns-in_err-put_signed-clause-err : goal.returns-in_err-put_signed-clause-err
returns-in_err-put_signed-clause-err c =
    let o = c.args.object in
    let fits : FitsSigned w64 o.number = search rules in
    let refused = rw (to_z-of_z w64 o.number fits) at (c.in_err-put_signed.ensures {u = tt}).err in
    on_err c.from_residual.result (front_first c.args.out.now (signed_decimal o.number) (58 ∷ uid_text o.space) c.put_signed.new.out (long_text o)
    (append_assoc (signed_decimal o.number) (58 ∷ []) (uid_text o.space)) refused)

pub returns-clause-err : goal.returns-clause-err
returns-clause-err c =
    let o = c.args.object in
    let fits : FitsSigned w64 o.number = search rules in
    let one = (c.in_ok-put_signed.ensures {u = tt}).ok ∙ ap (λ (z : ℤ). c.args.out.now ++ signed_decimal z) (to_z-of_z w64 o.number fits) in
    let two = then_more c.args.out.now (signed_decimal o.number) c.put_signed.new.out (58 ∷ []) c.push.new.self one (c.in_ok-push.ensures {u = tt}).ok in
    on_err_weaker c.put_uid.result (front_last c.args.out.now (signed_decimal o.number ++ 58 ∷ []) (uid_text o.space) c.push.new.self c.put_uid.new.out (long_text o) two refl) c.put_uid.ensures.err

pub returns-clause-fits : goal.returns-clause-fits
returns-clause-fits c =
    let number : FitsSigned w64 c.args.object.number = search rules in
    on_ok_weaker c.put_uid.result (λ space. record { number = number; space = space }) c.put_uid.ensures.fits
