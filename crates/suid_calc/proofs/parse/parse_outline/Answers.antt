use Rattle.std.proofs.Common.{refl, sym, inl}
use Rattle.std.specs.BTreeMap.{values}
use Rattle.suid_calc.proofs.WordLaws.{split_is, name_is_read}
use Rattle.suid_calc.proofs.LineLaws.{class_line_is}
use Rattle.suid_calc.proofs.KeptLaws.{no_first_line, not_first_line, unread_rest, whole_outline}
use Rattle.suid_calc.proofs.parse.parse_outline.Goals as goal

pub returns-in_default-clause-err : goal.returns-in_default-clause-err
returns-in_default-clause-err c = inl (no_first_line c.args.text.now (sym c.in_default.ensures), refl)

pub returns-in_default-class_line-clause-err : goal.returns-in_default-class_line-clause-err
returns-in_default-class_line-clause-err c = inl (not_first_line c.args.text.now c.in-Some.line.now c.in-Some.rest.now (sym c.in-Some.ensures) (sym c.in_default-class_line.ensures), refl)

pub returns-in-Err-clause-err : goal.returns-in-Err-clause-err
returns-in-Err-clause-err c =
    unread_rest c.args.text.now c.in-Some.line.now c.in-Some.rest.now c.in-Some-class_line.modifiers c.in-Some-class_line.name.now c.in-Err.fault
    (class_line_is c.in-Some.line.now (c.in-Some-class_line.modifiers, c.in-Some-class_line.name.now) (sym c.in-Some-class_line.ensures))
    (split_is 0x0A c.args.text.now (c.in-Some.line.now, c.in-Some.rest.now) (sym c.in-Some.ensures)) c.in-Err.ensures.err

pub invariant_of-result : goal.invariant_of-result
invariant_of-result c =
    let is = class_line_is c.in-Some.line.now (c.in-Some-class_line.modifiers, c.in-Some-class_line.name.now) (sym c.in-Some-class_line.ensures) in
    record { named = rw c.in_ok-name.ensures (name_is_read c.in-Some-class_line.name.now is.2); good = c.in_ok-members.ensures.good; ordered = c.in_ok-members.ensures.ordered }

pub returns-clause-ok : goal.returns-clause-ok
returns-clause-ok c =
    let read = c.in-Ok.ensures.ok in
    rw (c.in_ok-name.ensures, c.in_ok-members.ensures.members)
    (whole_outline c.args.text.now c.in-Some.line.now c.in-Some.rest.now c.in-Some-class_line.modifiers c.in-Some-class_line.name.now (values c.in-Ok.kept) read.0
    (class_line_is c.in-Some.line.now (c.in-Some-class_line.modifiers, c.in-Some-class_line.name.now) (sym c.in-Some-class_line.ensures))
    (split_is 0x0A c.args.text.now (c.in-Some.line.now, c.in-Some.rest.now) (sym c.in-Some.ensures)) read.1)
