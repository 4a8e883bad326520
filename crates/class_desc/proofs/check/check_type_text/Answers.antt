use Rattle.std.proofs.Common.{sym, refl}
use Rattle.class_desc.proofs.TypeTexts.{fits, fits_of, not_of}
use Rattle.class_desc.proofs.check.check_type_text.Goals as goal

pub returns-then-fits_text-clause-ok : goal.returns-then-fits_text-clause-ok
returns-then-fits_text-clause-ok c = fits c.args.code c.args.text.now (sym (rw c.as_slice.ensures at c.if-fits_text.ensures))

pub returns-else-fits_text-clause-err : goal.returns-else-fits_text-clause-err
returns-else-fits_text-clause-err c = (refl, not_of _ (fits_of c.args.code c.args.text.now) (rw c.as_slice.ensures at c.if-fits_text.ensures))
