-- The chain of a class: its description, its superclass's, and so on up.
use Rattle.std.specs.Prelude.{ℕ, zero, suc, Bool, false, List, [], ◌∷◌, Option, Some, None, slice_get}
use Rattle.class_desc.specs.declared.slot.Slot.{Slot}
use Rattle.class_desc.specs.declared.slot.Slot.TheVariants as slots
use Rattle.class_desc.specs.ClassDesc.{has_flag}
use Rattle.ser_values.specs.declared.limits.TheConstants.{PARTS}
use Rattle.ser_values.specs.declared.node.Node.{Node}
use Rattle.ser_values.specs.declared.node.Node.TheVariants.{Desc, Proxy}

-- a description's number, and those above it
abbrev pub up_from : (Slot → List ℕ) → ℕ → Option Node → List ℕ
up_from above k (Some (Desc d)) = k ∷ above d.parent
up_from above k (Some (Proxy p)) = k ∷ above p.parent
up_from above k _ = []

-- The numbers of the descriptions of a slot's chain, its own first; of at most so many.
unfoldable pub chain_within : ℕ → List Node → Slot → List ℕ
chain_within most nodes slots.Null = []
chain_within zero nodes (slots.Node k) = []
chain_within (suc most) nodes (slots.Node k) = up_from (chain_within most nodes) k (slice_get nodes k)

-- Those of the whole chain: no object of a graph has a longer one.
abbrev pub chain : List Node → Slot → List ℕ
chain nodes s = chain_within PARTS nodes s

-- the same, where the superclass is found
abbrev pub up_by : (Slot → List ℕ) → ℕ → Option Slot → List ℕ
up_by above k None = []
up_by above k (Some s) = k ∷ above s

abbrev pub is_externalizable : Option Node → Bool
is_externalizable (Some (Desc d)) = has_flag d.flags 4
is_externalizable _ = false
