use Rattle.std.proofs.Common.{sym, refl}
use Rattle.class_desc.specs.ClassDesc.{is_good_desc}
use Rattle.class_desc.proofs.Fields.{flags_are, flags_of}
use Rattle.class_desc.proofs.TypeTexts.{not_of}
use Rattle.class_desc.proofs.check.check_desc.Goals as goal

pub returns-then-not-fit_flags-clause-err : goal.returns-then-not-fit_flags-clause-err
returns-then-not-fit_flags-clause-err c = not_of _ (flags_of c.args.desc.now) c.if-not-fit_flags.ensures

pub returns-then-not-fit_flags-clause-tested : goal.returns-then-not-fit_flags-clause-tested
unfolding is_good_desc
returns-then-not-fit_flags-clause-tested c = rw (← c.if-not-fit_flags.ensures) refl

pub returns-then-not-are_ordered-clause-err : goal.returns-then-not-are_ordered-clause-err
returns-then-not-are_ordered-clause-err c =
    let bad = rw c.as_slice.ensures at c.if-not-are_ordered.ensures in
    (flags_are c.args.desc.now (sym c.if-not-fit_flags.ensures), not_of _ (λ e. e) bad)

pub returns-then-not-are_ordered-clause-tested : goal.returns-then-not-are_ordered-clause-tested
unfolding is_good_desc
returns-then-not-are_ordered-clause-tested c =
    let bad = rw c.as_slice.ensures at c.if-not-are_ordered.ensures in
    rw (← c.if-not-fit_flags.ensures, ← bad) refl

pub returns-clause-ok : goal.returns-clause-ok
returns-clause-ok c =
    let good = rw c.as_slice.ensures at c.if-not-are_ordered.ensures in
    (flags_are c.args.desc.now (sym c.if-not-fit_flags.ensures), sym good)

pub returns-clause-tested : goal.returns-clause-tested
unfolding is_good_desc
returns-clause-tested c =
    let good = rw c.as_slice.ensures at c.if-not-are_ordered.ensures in
    rw (← c.if-not-fit_flags.ensures, ← good) refl
