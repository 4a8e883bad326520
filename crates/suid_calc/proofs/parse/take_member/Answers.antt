use Rattle.std.proofs.Common.{sym, ◌∙◌}
use Rattle.std.specs.BTreeMap.{values}
use Rattle.suid_calc.proofs.WordLaws.{split_is}
use Rattle.suid_calc.proofs.LineLaws.{line_is, line_is_good}
use Rattle.suid_calc.proofs.KeptLaws.{no_line, not_line, kept_already}
use Rattle.suid_calc.proofs.parse.take_member.Goals as goal

pub returns-in_default-clause-ok : goal.returns-in_default-clause-ok
returns-in_default-clause-ok c = no_line c.args.rest.now (values c.args.kept.now) (sym c.in_default.ensures)

pub returns-in_default-2-clause-ok : goal.returns-in_default-2-clause-ok
returns-in_default-2-clause-ok c = not_line c.args.rest.now c.in-Some.line.now c.in-Some.behind.now (values c.args.kept.now) (sym c.in-Some.ensures) (sym c.in_ok-member.ensures ∙ c.in_default-2.is)

pub keep-requires-clause-good : goal.keep-requires-clause-good
keep-requires-clause-good c = line_is_good c.in-Some.line.now c.in-Some-2.member (line_is c.in-Some.line.now c.in-Some-2.member (sym c.in_ok-member.ensures ∙ c.in-Some-2.is))

pub returns-then-branch-clause-ok : goal.returns-then-branch-clause-ok
returns-then-branch-clause-ok c = let k = rw c.if-branch.true at c.in_ok-keep.ensures.ok in record {
  line = c.in-Some.line.now;
  member = c.in-Some-2.member;
  is = line_is c.in-Some.line.now c.in-Some-2.member (sym c.in_ok-member.ensures ∙ c.in-Some-2.is);
  new = k.0;
  parts = split_is 0x0A c.args.rest.now (c.in-Some.line.now, c.in-Some.behind.now) (sym c.in-Some.ensures);
  kept = k.1;
}

pub returns-else-branch-clause-ok : goal.returns-else-branch-clause-ok
returns-else-branch-clause-ok c =
    kept_already c.args.rest.now c.in-Some.line.now c.in-Some.behind.now (values c.args.kept.now) c.in-Some-2.member (sym c.in-Some.ensures) (sym c.in_ok-member.ensures ∙ c.in-Some-2.is) (rw c.if-branch.false at c.in_ok-keep.ensures.ok)
