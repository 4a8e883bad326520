use Rattle.std.proofs.Common.{arith, ◌+◌, ◌≤◌, length}
use Rattle.std.specs.BTreeMap.{values}
use Rattle.suid_calc.proofs.KeptLaws.{read_on, takes_some}
use Rattle.suid_calc.proofs.parse.members_of.Goals as goal

pub loop-rest-preserved : goal.loop-rest-preserved
loop-rest-preserved c =
    let t = rw c.in-Some.is at c.in_ok-behind.ensures.ok in
    let less : length c.in-Some.behind.now + 1 ≤ length c.loop-rest.rest.now = takes_some c.loop-rest.rest.now (values c.loop-rest.kept) (values c.take_member.new.kept) c.in-Some.behind.now t in
    let before : c.loop-rest.line + length c.loop-rest.rest.now ≤ length c.args.text.now + 2 = c.loop-rest.invariant.2 in (
      read_on c.args.text.now (values c.loop-rest.kept) (values c.take_member.new.kept) c.loop-rest.line c.loop-rest.rest.now c.in-Some.behind.now c.loop-rest.invariant.0 t,
      c.in_ok-behind.ensures.kept,
      omega arith,
    )
