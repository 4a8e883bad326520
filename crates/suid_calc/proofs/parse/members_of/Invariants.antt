use Rattle.std.proofs.Common.{◌≡◌, ◌+◌, ◌≤◌, length}
use Rattle.std.specs.BTreeMap.{values}
use Rattle.suid_calc.specs.Loops.{HasRead, AreKept}
use Rattle.suid_calc.proofs.parse.members_of.Given as goal

abbrev pub invariant-loop-rest : goal.invariant-loop-rest
invariant-loop-rest l = HasRead l.text (values l.kept) l.line l.rest × AreKept (λ k. k.items) l.kept.entries × (l.line + length l.rest ≤ length l.text + 2)

abbrev pub decreases-loop-rest : goal.decreases-loop-rest
decreases-loop-rest l = length l.rest
