use Rattle.std.proofs.Common.{◌≡◌, ◌<◌, ap, sym, ◌∙◌, arith, inl, inr, length, ℕ, ℤ, pos, to_z, of_z, w64}
use Rattle.std.specs.Prelude.{true, false, set, int_le}
use Rattle.std.proofs.lemmas.Int.{ints, to_z-of_z}
use Rattle.history.specs.declared.limits.TheConstants.{MAX_DURATION_MS}
use Rattle.lease_world.specs.Stands.{WorldParts}
use Rattle.lease_world.specs.World.{nth}
use Rattle.lease_world.proofs.Positions.{at-index}
use Rattle.lease_world.proofs.Stepping.{ask-step, ask-bad}
use Rattle.lease_world.proofs.world.World.set_asked.Goals as goal

pub returns-then-at-len : goal.returns-then-at-len
returns-then-at-len c =
    let e = ap (λ (v : WorldParts). length v.members) c.self.view_is in
    ask-bad c.args.self.now c.args.client c.args.asked (inl (omega (arith, c.if-at-len.true, c.len.ensures, c.from-at.ensures, e)))

pub returns-then-asked : goal.returns-then-asked
returns-then-asked c =
    let h = c.if-asked.true in
    let long : int_le c.args.asked (pos MAX_DURATION_MS) ≡ false = grind (arith, ints) in
    ask-bad c.args.self.now c.args.client c.args.asked (inr long)

pub returns : goal.returns
returns c =
    let h = c.if-asked.false in
    let short : int_le c.args.asked (pos MAX_DURATION_MS) ≡ true = grind (arith, ints) in
    let i = c.from-at.result in
    let was = c.index_mut.result.now in
    let within : i < length c.self.inside.members.items = omega (arith, c.if-at-len.false, c.len.ensures) in
    let there = at-index c.self.inside.members.items c.args.self.now.members i was (ap (λ (v : WorldParts). v.members) c.self.view_is) within c.index_mut.ensures.value in
    ask-step c.args.self.now _ c.args.client c.args.asked was (ap (nth c.args.self.now.members) (sym c.from-at.ensures) ∙ there) short
    (ap (λ (v : WorldParts). record v { members = set v.members i (record was { asked = to_z w64 (of_z w64 c.args.asked) }) }) c.self.view_is
    ∙ ap (λ (z : ℤ). record c.args.self.now { members = set c.args.self.now.members i (record was { asked = z }) }) (to_z-of_z w64 c.args.asked c.ranges.asked)
    ∙ ap (λ (j : ℕ). record c.args.self.now { members = set c.args.self.now.members j (record was { asked = c.args.asked }) }) c.from-at.ensures)
