-- The rules on nodes, each by itself and against the descriptions and texts that it names.
use Rattle.std.specs.Prelude.{◌^◌, ◌+◌, ℕ, zero, suc, Bool, true, false, ◌||◌, ◌&&◌, not, nat_lt, List, [], ◌∷◌, length, Option, Some, None, is_some, slice_get}
use Rattle.mod_utf.specs.Utf.{utf}
use Rattle.class_desc.specs.declared.slot.Slot.{Slot}
use Rattle.class_desc.specs.declared.slot.Slot.TheVariants as slots
use Rattle.class_desc.specs.declared.slot.Item.{Item}
use Rattle.class_desc.specs.declared.slot.Item.TheVariants as items
use Rattle.class_desc.specs.declared.field.TypeCode.{TypeCode}
use Rattle.class_desc.specs.declared.field.TypeCode.TheVariants as codes
use Rattle.class_desc.specs.declared.field.FieldDesc.{FieldDesc}
use Rattle.class_desc.specs.TypeCode.{is_primitive}
use Rattle.class_desc.specs.TypeText.{is_nil, fits_text, element_of}
use Rattle.class_desc.specs.ClassDesc.{has_flag, lacks_flag, is_good_desc}
use Rattle.ser_values.specs.declared.value.Value.{Value}
use Rattle.ser_values.specs.declared.value.Value.TheVariants as values
use Rattle.ser_values.specs.declared.value.Values.{Values}
use Rattle.ser_values.specs.declared.value.Values.TheVariants as kinds
use Rattle.ser_values.specs.declared.value.Part.{Part}
use Rattle.ser_values.specs.declared.node.Node.{Node}
use Rattle.ser_values.specs.declared.node.Node.TheVariants.{Text, Desc, Proxy, Object, Array, Class, Enum}
use Rattle.ser_values.specs.Node.{item_wants}

-- ---- texts and items

-- The text can be written with a length of 16 bits.
abbrev pub is_short : List ℕ → Bool
is_short t = nat_lt (length (utf t)) 65536

unfoldable pub are_short : List (List ℕ) → Bool
are_short [] = true
are_short (t ∷ ts) = is_short t && are_short ts

-- No bytes are empty, and no two stand side by side; `after` says that bytes stand directly before.
unfoldable pub joined_from : Bool → List Item → Bool
joined_from after [] = true
joined_from after (items.Ref s ∷ is) = joined_from false is
joined_from after (items.Bytes b ∷ is) = not (after || is_nil b) && joined_from true is

abbrev pub is_joined : List Item → Bool
is_joined is = joined_from false is

-- ---- descriptions

-- The node is a text that names a type of the code.
abbrev pub fits_node : TypeCode → Option Node → Bool
fits_node code (Some (Text t)) = fits_text code t
fits_node code _ = false

-- A reference field has a type text; a primitive one has null.
abbrev pub fits_type : List Node → TypeCode → Slot → Bool
fits_type nodes code slots.Null = is_primitive code
fits_type nodes code (slots.Node k) = not (is_primitive code) && fits_node code (slice_get nodes k)

unfoldable pub are_typed : List Node → List FieldDesc → Bool
are_typed nodes [] = true
are_typed nodes (f ∷ fs) = (is_short f.name && fits_type nodes f.code f.type_text) && are_typed nodes fs

-- ---- objects

abbrev pub fits_value : TypeCode → Value → Bool
fits_value codes.Byte (values.Byte v) = true
fits_value codes.Char (values.Char v) = true
fits_value codes.Double (values.Double v) = true
fits_value codes.Float (values.Float v) = true
fits_value codes.Int (values.Int v) = true
fits_value codes.Long (values.Long v) = true
fits_value codes.Short (values.Short v) = true
fits_value codes.Boolean (values.Boolean v) = true
fits_value codes.Array (values.Ref s) = true
fits_value codes.Object (values.Ref s) = true
fits_value _ _ = false

-- Each field has a value of its type.
unfoldable pub fit_values : List FieldDesc → List Value → Bool
fit_values [] [] = true
fit_values [] (v ∷ vs) = false
fit_values (f ∷ fs) [] = false
fit_values (f ∷ fs) (v ∷ vs) = fits_value f.code v && fit_values fs vs

-- A part of a class with these fields; only a class with a write method writes a note.
abbrev pub fits_part : List FieldDesc → Bool → Option Part → Bool
fits_part fields writes None = false
fits_part fields writes (Some p) = fit_values fields p.values && ((writes || is_nil p.note) && is_joined p.note)

-- The part fits the description, which is serializable or a proxy's; and `above` is true of the superclass.
abbrev pub fits_above : (Slot → Bool) → Option Part → Option Node → Bool
fits_above above p (Some (Desc d)) = has_flag d.flags 2 && (fits_part d.fields (has_flag d.flags 1) p && above d.parent)
fits_above above p (Some (Proxy q)) = fits_part [] false p && above q.parent
fits_above above p _ = false

-- The first n parts fit the chain of the slot's description, the highest superclass first.
unfoldable pub fits_chain : List Node → List Part → ℕ → Slot → Bool
fits_chain nodes ps zero slots.Null = true
fits_chain nodes ps zero (slots.Node k) = false
fits_chain nodes ps (suc n) slots.Null = false
fits_chain nodes ps (suc n) (slots.Node k) = fits_above (fits_chain nodes ps n) (slice_get ps n) (slice_get nodes k)

-- the same, one description further up: the superclass of a description that the part fits
abbrev pub fits_next : List Node → (Slot → Bool) → Option Part → Slot → Bool
fits_next nodes above p slots.Null = false
fits_next nodes above p (slots.Node k) = fits_above above p (slice_get nodes k)

abbrev pub or_above : (Slot → Bool) → Option Slot → Bool
or_above above None = false
or_above above (Some s) = above s

-- An externalizable object has one part, with a note alone.
abbrev pub is_external : List Part → Bool
is_external [] = false
is_external (p ∷ []) = is_nil p.values && is_joined p.note
is_external (p ∷ q ∷ ps) = false

-- An object's class is no enum's and no array's. Its parts fit its chain, or it is externalizable with block data.
abbrev pub fits_object : Option Node → List Part → Bool → Bool
fits_object (Some (Desc d)) ps chained =
    (lacks_flag d.flags 16 && not (is_some (element_of d.name))) && (chained || ((has_flag d.flags 4 && has_flag d.flags 8) && is_external ps))
fits_object (Some (Proxy q)) ps chained = chained
fits_object _ ps chained = false

-- ---- arrays and enums

-- The elements have the type that the class's name says.
abbrev pub fit_elements : Values → Option TypeCode → Bool
fit_elements (kinds.Bytes v) (Some codes.Byte) = true
fit_elements (kinds.Chars v) (Some codes.Char) = true
fit_elements (kinds.Doubles v) (Some codes.Double) = true
fit_elements (kinds.Floats v) (Some codes.Float) = true
fit_elements (kinds.Ints v) (Some codes.Int) = true
fit_elements (kinds.Longs v) (Some codes.Long) = true
fit_elements (kinds.Shorts v) (Some codes.Short) = true
fit_elements (kinds.Bools v) (Some codes.Boolean) = true
fit_elements (kinds.Refs v) (Some codes.Array) = true
fit_elements (kinds.Refs v) (Some codes.Object) = true
fit_elements _ _ = false

-- How many elements there are.
abbrev pub count_of : Values → ℕ
count_of (kinds.Bytes v) = length v
count_of (kinds.Chars v) = length v
count_of (kinds.Doubles v) = length v
count_of (kinds.Floats v) = length v
count_of (kinds.Ints v) = length v
count_of (kinds.Longs v) = length v
count_of (kinds.Shorts v) = length v
count_of (kinds.Bools v) = length v
count_of (kinds.Refs v) = length v

abbrev pub fits_array : Option Node → Values → Bool
fits_array (Some (Desc d)) vs = fit_elements vs (element_of d.name) && nat_lt (count_of vs) (2 ^ 31)
fits_array _ vs = false

abbrev pub is_enum : Option Node → Bool
is_enum (Some (Desc d)) = has_flag d.flags 16
is_enum _ = false

-- ---- the rules, for each kind of node

-- A text has fewer than 2^63 bytes; a description has at most 32,767 fields and short names; the counts of a proxy's names and
-- of an array's elements are below 2^31.
unfoldable pub is_shaped : List Node → Node → Bool
is_shaped nodes (Text t) = nat_lt (length (utf t)) (2 ^ 63)
is_shaped nodes (Desc d) = (is_short d.name && nat_lt (length d.fields) 32768) && (is_good_desc d && (are_typed nodes d.fields && is_joined d.note))
is_shaped nodes (Proxy p) = (nat_lt (length p.names) (2 ^ 31) && are_short p.names) && is_joined p.note
is_shaped nodes (Object c ps) = fits_object (slice_get nodes c) ps (fits_chain nodes ps (length ps) (slots.Node c))
is_shaped nodes (Array c vs) = fits_array (slice_get nodes c) vs
is_shaped nodes (Class c) = true
is_shaped nodes (Enum c t) = is_enum (slice_get nodes c)

-- ---- parts in all

-- How many references items have.
abbrev pub refs_in : List Item → ℕ
refs_in is = length (item_wants is)

-- How many parts an object's parts are: each is one, and so is each value of it.
unfoldable pub sizes_in : List Part → ℕ
sizes_in [] = 0
sizes_in (p ∷ ps) = suc (length p.values + sizes_in ps)

-- How many references the parts' notes have.
unfoldable pub notes_in : List Part → ℕ
notes_in [] = 0
notes_in (p ∷ ps) = refs_in p.note + notes_in ps

-- How many parts a node has beside those of its notes: a description's fields, the names of a proxy's interfaces, an object's parts with their
-- values, the elements of an array of references.
abbrev pub own_of : Node → ℕ
own_of (Desc d) = length d.fields
own_of (Proxy p) = length p.names
own_of (Object c ps) = sizes_in ps
own_of (Array c (kinds.Refs ss)) = length ss
own_of _ = 0

-- How many parts a node's notes have: each of their references is one.
abbrev pub notes_of : Node → ℕ
notes_of (Desc d) = refs_in d.note
notes_of (Proxy p) = refs_in p.note
notes_of (Object c ps) = notes_in ps
notes_of _ = 0

abbrev pub parts_of : Node → ℕ
parts_of i = own_of i + notes_of i

-- How many parts the nodes have.
unfoldable pub parts_in : List Node → ℕ
parts_in [] = 0
parts_in (i ∷ is) = parts_of i + parts_in is
