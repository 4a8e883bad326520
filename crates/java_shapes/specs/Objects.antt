-- What a graph's nodes say of a slot: its text, and what an object holds of its classes and their fields. Classes and fields are found by name and type.
use Rattle.std.specs.Prelude.{ℕ, ℤ, zero, suc, ◌-◌, Bool, true, false, ◌&&◌, nat_eq, List, [], ◌∷◌, length, Option, Some, None, option_and_then, position, slice_get, if◌then◌else◌}
use Rattle.class_desc.specs.declared.slot.Slot.{Slot}
use Rattle.class_desc.specs.declared.slot.Slot.TheVariants as slots
use Rattle.class_desc.specs.declared.field.TypeCode.{TypeCode}
use Rattle.class_desc.specs.declared.field.FieldDesc.{FieldDesc}
use Rattle.class_desc.specs.declared.desc.ClassDesc.{ClassDesc}
use Rattle.class_desc.specs.TypeCode.{letter}
use Rattle.ser_values.specs.declared.value.Value.{Value}
use Rattle.ser_values.specs.declared.value.Value.TheVariants as values
use Rattle.ser_values.specs.declared.value.Values.{Values}
use Rattle.ser_values.specs.declared.value.Values.TheVariants as kinds
use Rattle.ser_values.specs.declared.value.Part.{Part}
use Rattle.ser_values.specs.declared.node.Node.{Node}
use Rattle.ser_values.specs.declared.node.Node.TheVariants.{Text, Desc, Proxy, Object, Array}

-- The two texts are equal.
unfoldable pub same_text : List ℕ → List ℕ → Bool
same_text [] [] = true
same_text [] (y ∷ ys) = false
same_text (x ∷ xs) [] = false
same_text (x ∷ xs) (y ∷ ys) = nat_eq x y && same_text xs ys

-- ---- nodes

-- The node that a slot names, if it names one.
abbrev pub node_at : List Node → Slot → Option Node
node_at nodes slots.Null = None
node_at nodes (slots.Node k) = slice_get nodes k

abbrev pub text_in : Option Node → Option (List ℕ)
text_in (Some (Text t)) = Some t
text_in _ = None

-- The text that a slot names.
abbrev pub text_at : List Node → Slot → Option (List ℕ)
text_at nodes s = text_in (node_at nodes s)

-- ---- classes

-- the name of a class; a proxy's class has none
abbrev pub name_in : Option Node → Option (List ℕ)
name_in (Some (Desc d)) = Some d.name
name_in _ = None

-- the description of a class, where it has this name
abbrev pub named_in : List ℕ → Option Node → Option ClassDesc
named_in name (Some (Desc d)) = if same_text d.name name then Some d else None
named_in name _ = None

abbrev pub parent_in : Option Node → Option Slot
parent_in (Some (Desc d)) = Some d.parent
parent_in (Some (Proxy p)) = Some p.parent
parent_in _ = None

-- What an object holds of one of its classes: the class's description, and the object's part of it.
abbrev pub Held : Type 0
Held = ClassDesc × Part

-- of a class whose part this is, or else of one above it
abbrev pub held_of : (Slot → Option Held) → Part → Option ClassDesc → Option Slot → Option Held
held_of above p (Some d) parent = Some (d, p)
held_of above p None (Some s) = above s
held_of above p None None = None

abbrev pub held_here : (Slot → Option Held) → Option Part → Option ClassDesc → Option Slot → Option Held
held_here above None d parent = None
held_here above (Some p) d parent = held_of above p d parent

-- What the first n parts hold of the first class of this name, from the class of a slot up; parts stand with the highest superclass first.
unfoldable pub held_within : List Node → List ℕ → List Part → ℕ → Slot → Option Held
held_within nodes name ps zero s = None
held_within nodes name ps (suc n) s = held_here (held_within nodes name ps n) (slice_get ps n) (named_in name (node_at nodes s)) (parent_in (node_at nodes s))

abbrev pub held_in : List Node → List ℕ → Option Node → Option Held
held_in nodes name (Some (Object c ps)) = held_within nodes name ps (length ps) (slots.Node c)
held_in nodes name _ = None

-- What the object of a slot holds of the first of its classes that has this name, its own class first.
abbrev pub held_at : List Node → List ℕ → Slot → Option Held
held_at nodes name s = held_in nodes name (node_at nodes s)

abbrev pub own_of : Option ClassDesc → Option Part → Option Held
own_of (Some d) (Some p) = Some (d, p)
own_of _ _ = None

abbrev pub own_in : List Node → List ℕ → Option Node → Option Held
own_in nodes name (Some (Object c ps)) = own_of (named_in name (slice_get nodes c)) (slice_get ps (length ps - 1))
own_in nodes name _ = None

-- What the object of a slot holds of its own class, where that has this name: its last part.
abbrev pub own_at : List Node → List ℕ → Slot → Option Held
own_at nodes name s = own_in nodes name (node_at nodes s)

-- ---- fields

-- The field has this type and this name.
abbrev pub is_field : TypeCode → List ℕ → FieldDesc → Bool
is_field code name f = nat_eq (letter f.code) (letter code) && same_text f.name name

abbrev pub value_in : List Value → Option ℕ → Option Value
value_in vs None = None
value_in vs (Some k) = slice_get vs k

-- The value of the field of this type and this name.
unfoldable pub value_of : Held → TypeCode → List ℕ → Option Value
value_of held code name = value_in (held.1).values (position (is_field code name) (held.0).fields)

abbrev pub as_slot : Option Value → Option Slot
as_slot (Some (values.Ref s)) = Some s
as_slot _ = None

abbrev pub as_short : Option Value → Option ℤ
as_short (Some (values.Short x)) = Some x
as_short _ = None

abbrev pub as_int : Option Value → Option ℤ
as_int (Some (values.Int x)) = Some x
as_int _ = None

abbrev pub as_long : Option Value → Option ℤ
as_long (Some (values.Long x)) = Some x
as_long _ = None

-- ---- arrays

abbrev pub elements_of : Option ClassDesc → Values → Option Values
elements_of (Some d) vs = Some vs
elements_of None vs = None

abbrev pub array_in : List Node → List ℕ → Option Node → Option Values
array_in nodes name (Some (Array c vs)) = elements_of (named_in name (slice_get nodes c)) vs
array_in nodes name _ = None

-- The elements of the array of a slot, whose class has this name.
abbrev pub array_at : List Node → List ℕ → Slot → Option Values
array_at nodes name s = array_in nodes name (node_at nodes s)

abbrev pub as_bytes : Option Values → Option (List ℕ)
as_bytes (Some (kinds.Bytes b)) = Some b
as_bytes _ = None

abbrev pub as_refs : Option Values → Option (List Slot)
as_refs (Some (kinds.Refs ss)) = Some ss
as_refs _ = None

-- ---- steps that may find nothing

infixl 10 ◌>>=◌
abbrev pub ◌>>=◌ : {A B : Type 0} → Option A → (A → Option B) → Option B
o >>= f = option_and_then f o

abbrev pub and_rest : {B : Type 0} → Option B → Option (List B) → Option (List B)
and_rest (Some y) (Some ys) = Some (y ∷ ys)
and_rest _ _ = None

-- What f gives of each, in order; None where it gives nothing of one.
abbrev pub each : {A B : Type 0} → (A → Option B) → List A → Option (List B)
each f [] = Some []
each f (x ∷ xs) = and_rest (f x) (each f xs)
