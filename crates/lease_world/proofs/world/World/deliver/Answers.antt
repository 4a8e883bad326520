use Rattle.std.proofs.Common.{◌≡◌, ◌+◌, ◌<◌, ap, sym, ◌∙◌, arith, length, ℕ}
use Rattle.std.specs.Prelude.{set}
use Rattle.std.proofs.lemmas.Result.{err_from_is_err_and}
use Rattle.lease_world.specs.Letters.{Letter}
use Rattle.lease_world.specs.Stands.{WorldParts}
use Rattle.lease_world.specs.World.{ask_of}
use Rattle.lease_world.specs.declared.sent_call.SentCall.{SentCall}
use Rattle.lease_world.proofs.Positions.{at-index}
use Rattle.lease_world.proofs.Stepping.{deliver-bad, deliver-taken, deliver-not-taken}
use Rattle.lease_world.proofs.world.World.deliver.Goals as goal

pub returns-then-call-len : goal.returns-then-call-len
returns-then-call-len c =
    let e = ap (λ (v : WorldParts). length v.letters) c.self.view_is in
    deliver-bad c.args.self.now c.args.call (omega (arith, c.if-call-len.true, c.len.ensures, e))

pub returns-in_err-granted : goal.returns-in_err-granted
returns-in_err-granted c =
    let p = err_from_is_err_and c.from_residual-in_err-granted.result c.from_residual-in_err-granted.ensures.1 in
    let x = c.index.result.now in
    let l : c.args.call < length c.self.inside.letters.items = omega (arith, c.if-call-len.false, c.len.ensures) in
    let kept = ap (λ (v : WorldParts). v.letters) c.self.view_is in
    let there = at-index c.self.inside.letters.items c.args.self.now.letters c.args.call x kept l c.index.ensures in
    let there2 = at-index c.self.inside.letters.items c.args.self.now.letters c.args.call c.index-2.result.now kept l c.index-2.ensures in
    let same : c.index-2.result.now ≡ x = (let s = sym there2 ∙ there in cc) in
    let told = c.in_err-granted.ensures {u = tt} in
    rw (p.1, p.2) (deliver-not-taken c.args.self.now c.turn.new.self c.args.call (c.from-by.result + 1) c.in_ok-ask.ask x c.in_err-granted.field-0.0 there
    (ap (λ (n : ℕ). n + 1) (c.from-by.ensures ∙ ap (λ (s : SentCall). s.client) c.call.ensures))
    ((c.in_ok-ask.ensures {u = tt}) ∙ ap ask_of (c.call-2.ensures ∙ ap (λ (y : Letter). y.call) same)) told.err told.refused)

pub returns : goal.returns
returns c =
    let x = c.index.result.now in
    let l : c.args.call < length c.self.inside.letters.items = omega (arith, c.if-call-len.false, c.len.ensures) in
    let kept = ap (λ (v : WorldParts). v.letters) c.self.view_is in
    let there = at-index c.self.inside.letters.items c.args.self.now.letters c.args.call x kept l c.index.ensures in
    let there2 = at-index c.self.inside.letters.items c.args.self.now.letters c.args.call c.index-2.result.now kept l c.index-2.ensures in
    let same : c.index-2.result.now ≡ x = (let s = sym there2 ∙ there in cc) in
    let turned = (c.in_ok-granted.ensures {u = tt}).ok in
    let y = c.index_mut.result.now in
    let e1 = ap (λ (v : WorldParts). length v.letters) c.self.view_is in
    let e2 = ap (λ (v : WorldParts). length v.letters) c.self-2.view_is in
    let e3 = ap (λ (v : WorldParts). length v.letters) turned.rest in
    let l2 : c.args.call < length c.self-2.inside.letters.items = omega (arith, l, e1, e2, e3) in
    let there3 = at-index c.self-2.inside.letters.items c.turn.new.self.letters c.args.call y (ap (λ (v : WorldParts). v.letters) c.self-2.view_is) l2 c.index_mut.ensures.value in
    deliver-taken c.args.self.now c.turn.new.self _ c.args.call (c.from-by.result + 1) c.in_ok-granted.granted c.in_ok-ask.ask x y there
    (ap (λ (n : ℕ). n + 1) (c.from-by.ensures ∙ ap (λ (s : SentCall). s.client) c.call.ensures))
    ((c.in_ok-ask.ensures {u = tt}) ∙ ap ask_of (c.call-2.ensures ∙ ap (λ (z : Letter). z.call) same)) turned there3
    (ap (λ (v : WorldParts). record v { letters = set v.letters c.args.call c.note_delivery.new.self }) c.self-2.view_is
    ∙ ap (λ (q : Letter). record c.turn.new.self { letters = set c.turn.new.self.letters c.args.call q }) c.note_delivery.ensures)
