-- A node in parts: what stands before its handle but its class, what is written in one piece behind it, and what wants references.
use Rattle.std.specs.Prelude.{ℕ, List, [], ◌∷◌, ◌++◌, length, map, Option, None, Some}
use Rattle.std.specs.Int.{w16, w32, to_be_bytes}
use Rattle.class_desc.specs.declared.slot.Slot.{Slot}
use Rattle.class_desc.specs.declared.slot.Slot.TheVariants as slots
use Rattle.ser_values.specs.declared.value.Values.{Values}
use Rattle.ser_values.specs.declared.value.Values.TheVariants as kinds
use Rattle.ser_values.specs.declared.node.Node.{Node}
use Rattle.ser_values.specs.declared.node.Node.TheVariants.{Text, Desc, Proxy, Object, Array, Class, Enum}
use Rattle.ser_values.specs.declared.node.SlotPlace.TheVariants as places
use Rattle.ser_values.specs.Shape.{count_of}
use Rattle.stream_grammar.specs.Spelled.{Token, want, field_tokens, reference}
use Rattle.ser_write.specs.Canonical.{text_bytes, title_bytes, interface_bytes, primitive_bytes, ending_tokens, object_tokens}

-- a description's name and its number
abbrev pub own_title : Node → List ℕ
own_title (Desc d) = title_bytes d
own_title _ = []

-- the class that stands before the handle
abbrev pub class_of : Node → Option ℕ
class_of (Text t) = None
class_of (Desc d) = None
class_of (Proxy p) = None
class_of (Object c ps) = Some c
class_of (Array c vs) = Some c
class_of (Class c) = Some c
class_of (Enum c t) = Some c

-- the elements of an array of references
abbrev pub slots_of : Values → List Slot
slots_of (kinds.Refs s) = s
slots_of _ = []

-- the length of an array, and the elements of one of primitive values
abbrev pub element_bytes : Values → List ℕ
element_bytes vs = to_be_bytes w32 (count_of vs) ++ primitive_bytes vs

-- what is written in one piece behind the handle
abbrev pub behind_handle : Node → List ℕ
behind_handle (Text t) = text_bytes t
behind_handle (Desc d) = d.flags ∷ to_be_bytes w16 (length d.fields)
behind_handle (Proxy p) = interface_bytes p.names
behind_handle (Object c ps) = []
behind_handle (Array c vs) = element_bytes vs
behind_handle (Class c) = []
behind_handle (Enum c t) = []

-- what follows it
abbrev pub rest_tokens : List Node → Node → List Token
rest_tokens nodes (Text t) = []
rest_tokens nodes (Desc d) = field_tokens d.fields ++ ending_tokens d.note d.parent
rest_tokens nodes (Proxy p) = ending_tokens p.note p.parent
rest_tokens nodes (Object c ps) = object_tokens nodes c ps
rest_tokens nodes (Array c vs) = map reference (slots_of vs)
rest_tokens nodes (Class c) = []
rest_tokens nodes (Enum c t) = want (places.Text, slots.Node t) ∷ []
