use Rattle.std.proofs.Common.{◌≡◌, ◌∙◌, ◌-◌, ◌<◌, ◌++◌, ◌∷◌, [], List, ℕ, Option, None, Some, ap, sym, arith, append_assoc, append-nil}
use Rattle.class_desc.specs.declared.slot.Slot.{Slot}
use Rattle.ser_values.specs.Chain.{up_by, chain, chain_within}
use Rattle.ser_values.proofs.ChainLaws.{chain_none, chain_null, chain_step}
use Rattle.ser_values.proofs.chain.numbers_up.Goals as goal

-- where nothing is left
ends : (xs ys whole : List ℕ) → ys ≡ [] → xs ++ ys ≡ whole → xs ≡ whole
ends xs ys whole e f = sym (append-nil xs) ∙ (ap (λ (l : List ℕ). xs ++ l) (sym e) ∙ f)

pub returns-in-Null : goal.returns-in-Null
returns-in-Null c = ends c.loop-left.numbers.items _ (chain c.args.nodes.now c.args.class) (chain_null c.args.nodes.now c.loop-left.left c.loop-left.slot c.in-Null.is) c.loop-left.invariant

pub returns-in-None : goal.returns-in-None
returns-in-None c =
    let lt : 0 < c.loop-left.left = c.loop-left-test.true in
    let step = chain_step c.args.nodes.now c.loop-left.left c.in-Node.number c.loop-left.slot None lt c.in-Node.is (λ above. c.parent_of.ensures above ∙ ap (λ (o : Option Slot). up_by above c.in-Node.number o) c.in-None.is) in
    ends c.loop-left.numbers.items _ (chain c.args.nodes.now c.args.class) step c.loop-left.invariant

pub loop-left-preserved : goal.loop-left-preserved
loop-left-preserved c =
    let lt : 0 < c.loop-left.left = c.loop-left-test.true in
    let more = chain_within (c.loop-left.left - 1) c.args.nodes.now c.in-Some.parent in
    let numbers = c.loop-left.numbers.items in
    let step : chain_within c.loop-left.left c.args.nodes.now c.loop-left.slot ≡ c.in-Node.number ∷ more =
    chain_step c.args.nodes.now c.loop-left.left c.in-Node.number c.loop-left.slot (Some c.in-Some.parent) lt c.in-Node.is (λ above. c.parent_of.ensures above ∙ ap (λ (o : Option Slot). up_by above c.in-Node.number o) c.in-Some.is) in
    ap (λ (l : List ℕ). l ++ more) c.in_ok-push-in-Some.ensures.items ∙ (append_assoc numbers (c.in-Node.number ∷ []) more ∙ (ap (λ (l : List ℕ). numbers ++ l) (sym step) ∙ c.loop-left.invariant))

pub returns : goal.returns
returns c =
    let none : c.loop-left.left ≡ 0 = omega (arith, c.loop-left-test.false) in
    ends c.loop-left.numbers.items _ (chain c.args.nodes.now c.args.class) (ap (λ n. chain_within n c.args.nodes.now c.loop-left.slot) none ∙ chain_none c.args.nodes.now c.loop-left.slot) c.loop-left.invariant
