use Rattle.std.proofs.Common.{◌≡◌, ◌<◌, ap, sym, ◌∙◌, arith, length}
use Rattle.std.specs.Prelude.{Some, set}
use Rattle.lease_world.specs.Stands.{WorldParts, granted_by}
use Rattle.lease_world.specs.World.{nth}
use Rattle.lease_world.specs.declared.fault.WorldFault.TheVariants.{BadStep}
use Rattle.lease_world.specs.declared.sent_call.SentCall.{SentCall}
use Rattle.lease_world.specs.declared.step.Step.TheVariants as steps
use Rattle.lease_world.proofs.Positions.{nth-none, at-index}
use Rattle.lease_world.proofs.Stepping.{answer-none, answer-taken, no-sender}
use Rattle.lease_world.proofs.world.World.answer.Goals as goal

pub returns-then-call-len : goal.returns-then-call-len
returns-then-call-len c =
    let e = ap (λ (v : WorldParts). length v.letters) c.self.view_is in
    answer-none c.args.self.now c.args.call (ap granted_by (nth-none c.args.self.now.letters c.args.call (omega (arith, c.if-call-len.true, c.len.ensures, e))))

pub returns-in_default : goal.returns-in_default
returns-in_default c =
    let x = c.index-letter.result.now in
    let l : c.args.call < length c.self.inside.letters.items = omega (arith, c.if-call-len.false, c.len.ensures) in
    let there : nth c.args.self.now.letters c.args.call ≡ Some x = at-index c.self.inside.letters.items c.args.self.now.letters c.args.call x (ap (λ (v : WorldParts). v.letters) c.self.view_is) l c.index-letter.ensures in
    answer-none c.args.self.now c.args.call (ap granted_by there ∙ sym c.grant.ensures.value ∙ c.in_default.is)

pub returns-then-at-len : goal.returns-then-at-len
returns-then-at-len c =
    let x = c.index-letter.result.now in
    let l : c.args.call < length c.self.inside.letters.items = omega (arith, c.if-call-len.false, c.len.ensures) in
    let there : nth c.args.self.now.letters c.args.call ≡ Some x = at-index c.self.inside.letters.items c.args.self.now.letters c.args.call x (ap (λ (v : WorldParts). v.letters) c.self.view_is) l c.index-letter.ensures in
    let e = ap (λ (v : WorldParts). length v.members) c.self.view_is in
    let a = ap (λ (s : SentCall). s.client) c.call.ensures in
    no-sender c.args.self.now (steps.Answer c.args.call) c.args.call x BadStep there (omega (arith, c.if-at-len.true, c.len-2.ensures, c.from-at.ensures, a, e))

pub returns : goal.returns
returns c =
    let x = c.index-letter.result.now in
    let l : c.args.call < length c.self.inside.letters.items = omega (arith, c.if-call-len.false, c.len.ensures) in
    let there : nth c.args.self.now.letters c.args.call ≡ Some x = at-index c.self.inside.letters.items c.args.self.now.letters c.args.call x (ap (λ (v : WorldParts). v.letters) c.self.view_is) l c.index-letter.ensures in
    let i = c.from-at.result in
    let was = c.index_mut.result.now in
    let within : i < length c.self.inside.members.items = omega (arith, c.if-at-len.false, c.len-2.ensures) in
    answer-taken c.args.self.now _ c.args.call i c.in-Some.granted c.self.inside.moment x c.call-2.result.now.plan was c.hand_answer.new.table there
    (sym c.grant.ensures.value ∙ c.in-Some.is) (c.from-at.ensures ∙ ap (λ (s : SentCall). s.client) c.call.ensures) (ap (λ (v : WorldParts). v.moment) c.self.view_is)
    (ap (λ (s : SentCall). s.plan) c.call-2.ensures)
    (at-index c.self.inside.members.items c.args.self.now.members i was (ap (λ (v : WorldParts). v.members) c.self.view_is) within c.index_mut.ensures.value)
    c.hand_answer.ensures
    (ap (λ (v : WorldParts). record v { members = set v.members i (record was { table = c.hand_answer.new.table }) }) c.self.view_is)
