use Rattle.std.proofs.Common.{rules, FitsSigned, w64}
use Rattle.std.proofs.lemmas.Int.{to_z-of_z}
use Rattle.lease_world.proofs.member.hand_failure.Goals as goal

pub returns-in-Dirty : goal.returns-in-Dirty
returns-in-Dirty c =
    let fits : FitsSigned w64 c.in-Dirty.number = search rules in
    let told = rw (to_z-of_z w64 c.in-Dirty.number fits) at c.failed.ensures in
    rw c.in-Dirty.is told

pub returns-in-Clean : goal.returns-in-Clean
returns-in-Clean c =
    let fits : FitsSigned w64 c.in-Clean.number = search rules in
    let told = rw (to_z-of_z w64 c.in-Clean.number fits) at c.failed-in-Clean.ensures in
    rw c.in-Clean.is told
