use Rattle.std.proofs.Common.{◌≡◌, ◌++◌, take, flat_map}
use Rattle.suid_calc.specs.Text.{entry}
use Rattle.suid_calc.proofs.text.put_members.Given as goal

abbrev pub invariant-loop-member : goal.invariant-loop-member
invariant-loop-member l = l.out ≡ l.initial.out ++ flat_map entry (take l.member-index l.members)
