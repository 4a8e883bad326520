use Rattle.std.proofs.Common.{◌≡◌, ℤ, sym, ap, ◌∙◌, to_z, of_z, w64, rules}
use Rattle.std.specs.Prelude.{FitsSigned}
use Rattle.std.proofs.lemmas.Int.{to_z-of_z}
use Rattle.suid_calc.proofs.OrderLaws.{reordered, same_number}
use Rattle.suid_calc.proofs.laws.numbers_of.Goals as goal

pub returns-clause-same : goal.returns-clause-same
returns-clause-same c = λ r.
    let a = c.in_ok-outline.outline in
    let b = c.in_ok-reordered.reordered in
    let s = reordered c.args.text.now c.args.other.now a.modifiers b.modifiers a.name b.name a.members b.members r c.in_ok-outline.ensures.ok c.in_ok-reordered.ensures.ok a.ordered b.ordered in
    let e : c.in_ok-number.number ≡ c.in_ok-same.same = c.in_ok-number.ensures ∙ same_number a.modifiers b.modifiers a.name b.name a.members b.members s ∙ sym c.in_ok-same.ensures in
    ap (λ (z : ℤ). to_z w64 (of_z w64 z)) e

pub returns-clause-numbers : goal.returns-clause-numbers
returns-clause-numbers c =
    let one : FitsSigned w64 c.in_ok-number.number = search rules in
    let two : FitsSigned w64 c.in_ok-same.same = search rules in (
      (c.in_ok-outline.outline, c.in_ok-outline.ensures.ok, to_z-of_z w64 c.in_ok-number.number one ∙ c.in_ok-number.ensures),
      (c.in_ok-reordered.reordered, c.in_ok-reordered.ensures.ok, to_z-of_z w64 c.in_ok-same.same two ∙ c.in_ok-same.ensures),
    )
