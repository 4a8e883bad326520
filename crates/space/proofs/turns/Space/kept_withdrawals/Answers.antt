use Rattle.std.proofs.Common.{◌≡◌, length, subst}
use Rattle.std.specs.Prelude.{true, false}
use Rattle.space.specs.Built.{SpaceHistory}
use Rattle.space.specs.Idle.{untold_of, withdrawals_of}
use Rattle.space.proofs.IdleLaws.{kept-all, kept-untold}
use Rattle.space.proofs.turns.Space.kept_withdrawals.Goals as goal

pub returns-clause-stored : goal.returns-clause-stored
returns-clause-stored c =
    let P : SpaceHistory → Type 0 = λ s. s.configuration.stored ≡ true → c.kept_len.result ≡ length (withdrawals_of s.configuration s.events) in
    subst P c.self.view_is (kept-all c.self.inside.tables c.kept_len.result c.self.invariant c.kept_len.ensures)

pub returns-clause-erased : goal.returns-clause-erased
returns-clause-erased c =
    let P : SpaceHistory → Type 0 = λ s. s.configuration.stored ≡ false → c.kept_len.result ≡ length (untold_of s.configuration s.events) in
    subst P c.self.view_is (kept-untold c.self.inside.tables c.kept_len.result c.self.invariant c.kept_len.ensures)
