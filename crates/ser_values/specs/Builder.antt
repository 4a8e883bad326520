-- Loose nodes as they are added and changed.
use Rattle.std.specs.Prelude.{◌≡◌, ◌≢◌, ◌<◌, ℕ, zero, Bool, true, false, List, [], ◌∷◌, ◌++◌, length, Option, Some, None, option_map, Result, Ok, Err, slice_get, slice_set}
use Rattle.class_desc.specs.declared.slot.Slot.{Slot}
use Rattle.class_desc.specs.declared.slot.Slot.TheVariants as slots
use Rattle.ser_values.specs.declared.value.Value.{Value}
use Rattle.ser_values.specs.declared.value.Value.TheVariants as values
use Rattle.ser_values.specs.declared.value.Values.TheVariants.{Refs}
use Rattle.ser_values.specs.declared.value.Part.{Part}
use Rattle.ser_values.specs.declared.node.Node.{Node}
use Rattle.ser_values.specs.declared.node.Node.TheVariants.{Text, Object, Array}
use Rattle.ser_values.specs.declared.fault.BuildFault.{BuildFault}
use Rattle.ser_values.specs.declared.fault.BuildFault.TheVariants.{OutOfMemory, TooManyNodes, WrongShape, TooDeep}
use Rattle.ser_values.specs.declared.limits.TheConstants.{NODES}

-- The node is added at the end, and its number is answered; or it is refused, exactly at the greatest number of nodes or for want of memory, and nothing changes.
abbrev pub AddsNode : List Node → List Node → Node → Result Slot BuildFault → Type 0
AddsNode old new node (Ok slot) = (length old < NODES) × (slot ≡ slots.Node (length old)) × (new ≡ old ++ node ∷ [])
AddsNode old new node (Err TooManyNodes) = (length old ≡ NODES) × (new ≡ old)
AddsNode old new node (Err OutOfMemory) = (length old < NODES) × (new ≡ old)
AddsNode old new node (Err WrongShape) = ⊥
AddsNode old new node (Err TooDeep) = ⊥

-- The number that a class or a name is kept by. That of null is no node's.
abbrev pub number_of : Slot → ℕ
number_of slots.Null = 4294967295
number_of (slots.Node k) = k

-- ---- texts

-- No loose text equals the units.
abbrev pub HasNoText : List Node → List ℕ → Type 0
HasNoText loose units = (k : ℕ) → slice_get loose k ≢ Some (Text units)

-- The first loose text that equals the units has this number.
abbrev pub IsFirstText : List Node → List ℕ → ℕ → Type 0
IsFirstText loose units j = (slice_get loose j ≡ Some (Text units)) × ((k : ℕ) → k < j → slice_get loose k ≢ Some (Text units))

-- the first text, if there is one
abbrev pub MatchFirstText : List Node → List ℕ → Option ℕ → Type 0
MatchFirstText loose units (Some j) = IsFirstText loose units j
MatchFirstText loose units None = HasNoText loose units

-- ---- one reference is written over, where there is one

-- the list with an item written over, where that can be done
abbrev pub put : {A : Type 0} → List A → ℕ → Option A → Option (List A)
put xs k None = None
put xs k (Some x) = Some (slice_set xs k x)

abbrev pub value_to : Slot → Option Value → Option Value
value_to to (Some (values.Ref s)) = Some (values.Ref to)
value_to to _ = None

abbrev pub slot_to : Slot → Option Slot → Option Slot
slot_to to None = None
slot_to to (Some s) = Some to

abbrev pub values_to : List Value → ℕ → Slot → Option (List Value)
values_to vs place to = put vs place (value_to to (slice_get vs place))

abbrev pub part_to : ℕ → Slot → Option Part → Option Part
part_to place to None = None
part_to place to (Some p) = option_map (λ vs. record p { values = vs }) (values_to p.values place to)

-- An object's reference stands in a part of it, an array's in its elements.
abbrev pub node_to : ℕ → ℕ → Slot → Option Node → Option Node
node_to part place to (Some (Object c ps)) = option_map (λ qs. Object c qs) (put ps part (part_to place to (slice_get ps part)))
node_to zero place to (Some (Array c (Refs ss))) = option_map (λ ts. Array c (Refs ts)) (put ss place (slot_to to (slice_get ss place)))
node_to part place to _ = None

-- The loose nodes with the reference of a node at a part and a place written over; None where no reference stands there.
abbrev pub with_reference : List Node → Slot → ℕ → ℕ → Slot → Option (List Node)
with_reference loose slots.Null part place to = None
with_reference loose (slots.Node k) part place to = put loose k (node_to part place to (slice_get loose k))

-- what a change answers: the changed value, or None
abbrev pub or_none : {A : Type 0} → Bool → Option A → Option A
or_none true x = x
or_none false x = None
