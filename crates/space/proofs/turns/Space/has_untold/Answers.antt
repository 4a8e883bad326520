use Rattle.std.proofs.Common.{◌≡◌, ◌<◌, [], length, subst}
use Rattle.space.specs.Built.{SpaceHistory}
use Rattle.space.specs.Idle.{untold_of}
use Rattle.space.proofs.IdleLaws.{untold-some, untold-none}
use Rattle.space.proofs.turns.Space.has_untold.Goals as goal

pub returns-clause-some : goal.returns-clause-some
returns-clause-some c = λ h.
    let P : SpaceHistory → Type 0 = λ s. 0 < length (untold_of s.configuration s.events) in
    subst P c.self.view_is (untold-some c.self.inside.tables c.len.result c.self.invariant c.len.ensures h)

pub returns-clause-none : goal.returns-clause-none
returns-clause-none c = λ h.
    let P : SpaceHistory → Type 0 = λ s. untold_of s.configuration s.events ≡ [] in
    subst P c.self.view_is (untold-none c.self.inside.tables c.len.result c.self.invariant c.len.ensures h)
