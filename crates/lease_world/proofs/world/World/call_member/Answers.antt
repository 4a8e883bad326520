use Rattle.std.proofs.Common.{◌≡◌, ◌<◌, ap, sym, ◌∙◌, arith, length, rules, FitsSigned, w64, ℤ}
use Rattle.std.specs.Prelude.{set, List}
use Rattle.std.proofs.lemmas.Int.{to_z-of_z}
use Rattle.std.proofs.lemmas.Result.{err_from_is_err_and}
use Rattle.lease_world.specs.Letters.{Letter}
use Rattle.lease_world.specs.Stands.{WorldParts, with_letter}
use Rattle.lease_world.specs.Tables.{call_of}
use Rattle.lease_world.specs.declared.member.Member.{Member}
use Rattle.lease_world.proofs.Positions.{at-index}
use Rattle.lease_world.proofs.Stepping.{called-by, not-called}
use Rattle.lease_world.proofs.world.World.call_member.Goals as goal

pub returns-in_err-plan : goal.returns-in_err-plan
returns-in_err-plan c =
    let p = err_from_is_err_and c.from_residual-in_err-plan.result c.from_residual-in_err-plan.ensures.1 in
    let i = c.from-at.result in
    let was = c.index_mut.result.now in
    let within : i < length c.self.inside.members.items = omega (arith, c.if-at-len.false, c.len.ensures) in
    let now = ap (λ (v : WorldParts). v.moment) c.self.view_is in
    rw p.1 (not-called c.args.self.now _ i c.args.client (call_of c.args.call c.args.self.now.moment) c.in_err-plan.field-0.0 was c.call_table.new.table c.reserve.new.self.items p.0 c.from-at.ensures
    (at-index c.self.inside.members.items c.args.self.now.members i was (ap (λ (v : WorldParts). v.members) c.self.view_is) within c.index_mut.ensures.value)
    (rw (sym now) c.in_err-plan.ensures)
    (c.in_ok-reserve.ensures.items ∙ ap (λ (v : WorldParts). v.letters) c.self.view_is)
    (ap (λ (v : WorldParts). record v { members = set v.members i (record was { table = c.call_table.new.table }); letters = c.reserve.new.self.items }) c.self.view_is)
    p.2)

pub returns : goal.returns
returns c =
    let i = c.from-at.result in
    let was = c.index_mut.result.now in
    let within : i < length c.self.inside.members.items = omega (arith, c.if-at-len.false, c.len.ensures) in
    let now = ap (λ (v : WorldParts). v.moment) c.self.view_is in
    let there = at-index c.self.inside.members.items c.args.self.now.members i was (ap (λ (v : WorldParts). v.members) c.self.view_is) within c.index_mut.ensures.value in
    let there2 = at-index c.self.inside.members.items c.args.self.now.members i c.index.result.now (ap (λ (v : WorldParts). v.members) c.self.view_is) within c.index.ensures in
    let same : c.index.result.now ≡ was = (let s = sym there2 ∙ there in cc) in
    let fits : FitsSigned w64 c.index.result.now.asked = search rules in
    let back = to_z-of_z w64 c.index.result.now.asked fits in
    let sent = c.send.ensures
    ∙ ap (λ (z : ℤ). with_letter c.args.client z c.in_ok-plan.plan c.reserve.new.self.items) back
    ∙ ap (λ (ls : List Letter). with_letter c.args.client c.index.result.now.asked c.in_ok-plan.plan ls) (c.in_ok-reserve.ensures.items ∙ ap (λ (v : WorldParts). v.letters) c.self.view_is) in
    called-by c.args.self.now _ i c.args.client (call_of c.args.call c.args.self.now.moment) was c.index.result.now.asked c.in_ok-plan.plan c.call_table.new.table c.send.new.letters.items
    c.from-at.ensures there (ap (λ (m : Member). m.asked) same) (rw (sym now) c.in_ok-plan.ensures) sent
    (ap (λ (v : WorldParts). record v { members = set v.members i (record was { table = c.call_table.new.table }); letters = c.send.new.letters.items }) c.self.view_is)
