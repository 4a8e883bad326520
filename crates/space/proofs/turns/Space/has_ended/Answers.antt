use Rattle.std.proofs.Common.{sym, subst, inl, inr}
use Rattle.space.specs.Built.{SpaceHistory}
use Rattle.space.specs.Idle.{SomethingEnds, TickChangesNothing}
use Rattle.space.proofs.IdleLaws.{idle-tick, leases-answer, waits-answer}
use Rattle.space.proofs.turns.Space.has_ended.Goals as goal

pub returns-then-has_ended-clause-ends : goal.returns-then-has_ended-clause-ends
returns-then-has_ended-clause-ends c =
    let P : SpaceHistory → Type 0 = λ s. SomethingEnds s.configuration s.events c.args.moment in
    let leases = leases-answer c.self.inside.tables c.args.moment c.has_ended.result c.self.invariant c.has_ended.ensures in
    (λ y. subst P c.self.view_is (inl (leases.0 c.if-has_ended.true)), λ some. c.if-has_ended.true)

pub returns-then-has_ended-clause-idle : goal.returns-then-has_ended-clause-idle
returns-then-has_ended-clause-idle c = λ h. absurd (cc)

pub returns-else-has_ended-clause-ends : goal.returns-else-has_ended-clause-ends
returns-else-has_ended-clause-ends c =
    let P : SpaceHistory → Type 0 = λ s. SomethingEnds s.configuration s.events c.args.moment in
    let leases = leases-answer c.self.inside.tables c.args.moment c.has_ended.result c.self.invariant c.has_ended.ensures in
    let waits = waits-answer c.self.inside.tables c.args.moment c.has_ended_since.result c.self.invariant c.has_ended_since.ensures in (
      λ y. subst P c.self.view_is (inr (waits.0 y)),
      λ some. elim (subst P (sym c.self.view_is) some) [
        | inl l ↦ absurd (let yes = leases.1 l in let none = c.if-has_ended.false in cc)
        | inr w ↦ waits.1 w
      ],
    )

pub returns-else-has_ended-clause-idle : goal.returns-else-has_ended-clause-idle
returns-else-has_ended-clause-idle c = λ h.
    let P : SpaceHistory → Type 0 = λ s. TickChangesNothing s.configuration s.events c.args.moment in
    let leases = leases-answer c.self.inside.tables c.args.moment c.has_ended.result c.self.invariant c.has_ended.ensures in
    let waits = waits-answer c.self.inside.tables c.args.moment c.has_ended_since.result c.self.invariant c.has_ended_since.ensures in
    subst P c.self.view_is (idle-tick c.self.inside.tables.config c.self.inside.tables.events.items c.args.moment
    (λ some. elim some [
      | inl l ↦ (let yes = leases.1 l in let none = c.if-has_ended.false in cc)
      | inr w ↦ (let yes = waits.1 w in cc)
    ]))
