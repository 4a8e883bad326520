-- Nodes under other numbers.
use Rattle.std.specs.Prelude.{◌≡◌, ℕ, suc, ◌+◌, ◌<◌, true, get_or, List, [], ◌∷◌, map, Option, Some, None, nat_eq, slice_get, if◌then◌else◌}
use Rattle.class_desc.specs.declared.slot.Slot.{Slot}
use Rattle.class_desc.specs.declared.slot.Slot.TheVariants as slots
use Rattle.class_desc.specs.declared.slot.Item.{Item}
use Rattle.class_desc.specs.declared.slot.Item.TheVariants as items
use Rattle.class_desc.specs.declared.field.FieldDesc.{FieldDesc}
use Rattle.class_desc.specs.declared.desc.ClassDesc.{ClassDesc}
use Rattle.class_desc.specs.declared.desc.ProxyDesc.{ProxyDesc}
use Rattle.class_desc.specs.TypeCode.{is_primitive}
use Rattle.ser_values.specs.declared.value.Value.{Value}
use Rattle.ser_values.specs.declared.value.Value.TheVariants as values
use Rattle.ser_values.specs.declared.value.Values.{Values}
use Rattle.ser_values.specs.declared.value.Values.TheVariants.{Refs}
use Rattle.ser_values.specs.declared.value.Part.{Part}
use Rattle.ser_values.specs.declared.node.Node.{Node}
use Rattle.ser_values.specs.declared.node.Node.TheVariants.{Text, Desc, Proxy, Object, Array, Class, Enum}
use Rattle.ser_values.specs.Node.{has}

-- The new number of each node.
abbrev pub Renaming : Type 0
Renaming = ℕ → ℕ

abbrev pub slot_by : Renaming → Slot → Slot
slot_by f slots.Null = slots.Null
slot_by f (slots.Node j) = slots.Node (f j)

abbrev pub item_by : Renaming → Item → Item
item_by f (items.Bytes b) = items.Bytes b
item_by f (items.Ref s) = items.Ref (slot_by f s)

abbrev pub field_by : Renaming → FieldDesc → FieldDesc
field_by f d = record d { type_text = if is_primitive d.code then d.type_text else slot_by f d.type_text }

abbrev pub value_by : Renaming → Value → Value
value_by f (values.Ref s) = values.Ref (slot_by f s)
value_by f v = v

abbrev pub part_by : Renaming → Part → Part
part_by f p = record { values = map (value_by f) p.values; note = map (item_by f) p.note }

abbrev pub values_by : Renaming → Values → Values
values_by f (Refs ss) = Refs (map (slot_by f) ss)
values_by f vs = vs

abbrev pub desc_by : Renaming → ClassDesc → ClassDesc
desc_by f d = record d { fields = map (field_by f) d.fields; note = map (item_by f) d.note; parent = slot_by f d.parent }

abbrev pub proxy_by : Renaming → ProxyDesc → ProxyDesc
proxy_by f p = record p { note = map (item_by f) p.note; parent = slot_by f p.parent }

-- The same node, in which other nodes have their new numbers.
unfoldable pub node_by : Renaming → Node → Node
node_by f (Text t) = Text t
node_by f (Desc d) = Desc (desc_by f d)
node_by f (Proxy p) = Proxy (proxy_by f p)
node_by f (Object c ps) = Object (f c) (map (part_by f) ps)
node_by f (Array c vs) = Array (f c) (values_by f vs)
node_by f (Class c) = Class (f c)
node_by f (Enum c t) = Enum (f c) (f t)

-- ---- nodes in another order

-- the place of a number in a list
unfoldable pub place_in : List ℕ → ℕ → ℕ
place_in [] j = 0
place_in (x ∷ xs) j = if nat_eq x j then 0 else suc (place_in xs j)

abbrev pub node_or_by : Renaming → Option Node → Node
node_or_by f None = Text []
node_or_by f (Some i) = node_by f i

-- The nodes of these numbers, in this order; each node's new number is its place in the order.
unfoldable pub reordered : List Node → List ℕ → List Node
reordered nodes order = map (λ j. node_or_by (place_in order) (slice_get nodes j)) order

-- ---- a table of places

-- each of these numbers is below n
abbrev pub AllBelow : List ℕ → ℕ → Type 0
AllBelow xs n = (j : ℕ) → has xs j ≡ true → j < n

-- the table has, for each of these numbers, where it stands, counted from a base
abbrev pub HasPlaces : List ℕ → ℕ → List ℕ → Type 0
HasPlaces xs base places = (j : ℕ) → has xs j ≡ true → slice_get places j ≡ Some (base + place_in xs j)

abbrev pub place_at : List ℕ → ℕ → ℕ
place_at places j = get_or places j 0
