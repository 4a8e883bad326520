-- What is written of a node, in order, before its handle is given and after it; and what may stand in each kind of place.
use Rattle.std.specs.Prelude.{ℕ, Bool, true, false, ◌||◌, ◌&&◌, not, nat_eq, List, [], ◌∷◌, ◌++◌, if◌then◌else◌}
use Rattle.class_desc.specs.declared.slot.Slot.{Slot}
use Rattle.class_desc.specs.declared.slot.Slot.TheVariants as slots
use Rattle.class_desc.specs.declared.slot.Item.{Item}
use Rattle.class_desc.specs.declared.slot.Item.TheVariants as items
use Rattle.class_desc.specs.declared.field.FieldDesc.{FieldDesc}
use Rattle.class_desc.specs.TypeCode.{is_primitive}
use Rattle.ser_values.specs.declared.value.Value.{Value}
use Rattle.ser_values.specs.declared.value.Value.TheVariants as values
use Rattle.ser_values.specs.declared.value.Values.{Values}
use Rattle.ser_values.specs.declared.value.Values.TheVariants.{Refs}
use Rattle.ser_values.specs.declared.value.Part.{Part}
use Rattle.ser_values.specs.declared.node.Node.{Node}
use Rattle.ser_values.specs.declared.node.Node.TheVariants.{Text, Desc, Proxy, Object, Array, Class, Enum}
use Rattle.ser_values.specs.declared.node.SlotPlace.{SlotPlace}
use Rattle.ser_values.specs.declared.node.SlotPlace.TheVariants as places

-- The number is in the list.
unfoldable pub has : List ℕ → ℕ → Bool
has [] k = false
has (x ∷ xs) k = nat_eq x k || has xs k

-- ---- what may stand in a place

unfoldable pub is_desc : Node → Bool
is_desc (Text t) = false
is_desc (Desc d) = true
is_desc (Proxy p) = true
is_desc (Object c ps) = false
is_desc (Array c vs) = false
is_desc (Class c) = false
is_desc (Enum c t) = false

unfoldable pub is_text : Node → Bool
is_text (Text t) = true
is_text _ = false

-- A node that is written there for the first time.
unfoldable pub admits : SlotPlace → Node → Bool
admits places.Reference i = true
admits places.Class i = is_desc i
admits places.Parent i = is_desc i
admits places.Text i = is_text i

-- A node that was written before: a description is read whole before it is named.
unfoldable pub takes : SlotPlace → Bool → Node → Bool
takes places.Reference unread i = true
takes places.Class unread i = is_desc i && not unread
takes places.Parent unread i = is_desc i && not unread
takes places.Text unread i = is_text i

unfoldable pub admits_null : SlotPlace → Bool
admits_null places.Reference = true
admits_null places.Class = false
admits_null places.Parent = true
admits_null places.Text = false

-- ---- what a node wants: the references that are written of it, each with the kind of its place

abbrev pub Want : Type 0
Want = SlotPlace × Slot

unfoldable pub item_wants : List Item → List Want
item_wants [] = []
item_wants (items.Bytes b ∷ is) = item_wants is
item_wants (items.Ref s ∷ is) = (places.Reference, s) ∷ item_wants is

unfoldable pub value_wants : List Value → List Want
value_wants [] = []
value_wants (values.Ref s ∷ vs) = (places.Reference, s) ∷ value_wants vs
value_wants (v ∷ vs) = value_wants vs

unfoldable pub part_wants : List Part → List Want
part_wants [] = []
part_wants (p ∷ ps) = value_wants p.values ++ (item_wants p.note ++ part_wants ps)

unfoldable pub field_wants : List FieldDesc → List Want
field_wants [] = []
field_wants (f ∷ fs) = if is_primitive f.code then field_wants fs else (places.Text, f.type_text) ∷ field_wants fs

unfoldable pub slot_wants : List Slot → List Want
slot_wants [] = []
slot_wants (s ∷ ss) = (places.Reference, s) ∷ slot_wants ss

abbrev pub element_wants : Values → List Want
element_wants (Refs ss) = slot_wants ss
element_wants _ = []

-- before its handle: a class description
unfoldable pub before : Node → List Want
before (Text t) = []
before (Desc d) = []
before (Proxy p) = []
before (Object c ps) = (places.Class, slots.Node c) ∷ []
before (Array c vs) = (places.Class, slots.Node c) ∷ []
before (Class c) = (places.Class, slots.Node c) ∷ []
before (Enum c t) = (places.Class, slots.Node c) ∷ []

-- after its handle: type texts, annotations, superclasses, values, elements, an enum constant's name
unfoldable pub after : Node → List Want
after (Text t) = []
after (Desc d) = field_wants d.fields ++ (item_wants d.note ++ (places.Parent, d.parent) ∷ [])
after (Proxy p) = item_wants p.note ++ (places.Parent, p.parent) ∷ []
after (Object c ps) = part_wants ps
after (Array c vs) = element_wants vs
after (Class c) = []
after (Enum c t) = (places.Text, slots.Node t) ∷ []

-- The descriptions that are unread inside a node: a description is, until its superclass was written.
abbrev pub inside : List ℕ → ℕ → Node → List ℕ
inside unread k i = if is_desc i then unread ++ k ∷ [] else unread
