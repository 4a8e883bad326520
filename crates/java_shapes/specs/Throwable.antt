-- What is told of a fault: an object that has a part of class java.lang.Throwable.
use Rattle.std.specs.Prelude.{ℕ, List, ◌++◌, Option, Some, None, codes, slice_get}
use Rattle.class_desc.specs.declared.slot.Slot.{Slot}
use Rattle.class_desc.specs.declared.field.TypeCode.TheVariants as types
use Rattle.ser_values.specs.declared.node.Node.{Node}
use Rattle.ser_values.specs.declared.node.Node.TheVariants.{Object}
use Rattle.java_shapes.specs.Objects.{Held, node_at, text_at, name_in, held_at, value_of, as_slot}

abbrev pub class_name_in : List Node → Option Node → Option (List ℕ)
class_name_in nodes (Some (Object c ps)) = name_in (slice_get nodes c)
class_name_in nodes _ = None

-- The name of the class of a slot's object.
abbrev pub class_name_at : List Node → Slot → Option (List ℕ)
class_name_at nodes s = class_name_in nodes (node_at nodes s)

abbrev pub text_of : List Node → Option Slot → Option (List ℕ)
text_of nodes None = None
text_of nodes (Some s) = text_at nodes s

-- its detailMessage, where that is a text
abbrev pub message_of : List Node → Held → Option (List ℕ)
message_of nodes held = text_of nodes (as_slot (value_of held types.Object (codes "detailMessage")))

abbrev pub with_message : List ℕ → Option (List ℕ) → List ℕ
with_message name None = name
with_message name (Some text) = name ++ (codes ": " ++ text)

abbrev pub fault_text_of : List Node → Option (List ℕ) → Option Held → Option (List ℕ)
fault_text_of nodes (Some name) (Some held) = Some (with_message name (message_of nodes held))
fault_text_of nodes _ _ = None

-- The class's name, and, where the detailMessage is a text, a colon, a space and that text. None where the object has no part of class java.lang.Throwable,
-- or its own class is a proxy.
abbrev pub fault_text_at : List Node → Slot → Option (List ℕ)
fault_text_at nodes s = fault_text_of nodes (class_name_at nodes s) (held_at nodes (codes "java.lang.Throwable") s)
