-- Steps up the chain of a class.
use Rattle.std.proofs.Common.{◌≡◌, ℕ, zero, suc, ◌-◌, ◌<◌, List, [], Option, slice_get, refl, arith}
use Rattle.class_desc.specs.declared.slot.Slot.{Slot}
use Rattle.class_desc.specs.declared.slot.Slot.TheVariants as slots
use Rattle.ser_values.specs.declared.node.Node.{Node}
use Rattle.ser_values.specs.Chain.{up_from, up_by, chain_within, chain}

pub chain_none : (nodes : List Node) (s : Slot) → chain_within zero nodes s ≡ []
unfolding chain_within
chain_none nodes slots.Null = refl
chain_none nodes (slots.Node k) = refl

pub chain_null : (nodes : List Node) (left : ℕ) (s : Slot) → s ≡ slots.Null → chain_within left nodes s ≡ []
unfolding chain_within
chain_null nodes zero s e = rw e refl
chain_null nodes (suc left) s e = rw e refl

pub chain_step : (nodes : List Node) (left k : ℕ) (s : Slot) (o : Option Slot) → 0 < left → s ≡ slots.Node k → ((above : Slot → List ℕ) → up_from above k (slice_get nodes k) ≡ up_by above k o) → chain_within left nodes s ≡ up_by (chain_within (left - 1) nodes) k o
unfolding chain_within
chain_step nodes zero k s o lt e f = absurd (omega arith)
chain_step nodes (suc left) k s o lt e f =
    let less : (suc left) - 1 ≡ left = omega arith in
    rw (e, less) (f (chain_within left nodes))
