-- The description of an outline's class (Java Object Serialization Specification, 6.4.1 and 6.4.2).
use Rattle.std.specs.Prelude.{◌<◌, ℕ, suc, Bool, false, not, ◌&&◌, nat_eq, IsTrue, List, Vec, [], ◌∷◌, ◌++◌, length, map, filter, fold, unwrap_or, if◌then◌else◌}
use Rattle.std.specs.List.{list_any, position_or_len}
use Rattle.std.specs.Cmp.Lexicographic.{pointwise}
use Rattle.class_desc.specs.declared.slot.Slot.{Slot}
use Rattle.class_desc.specs.declared.slot.Slot.TheVariants as slots
use Rattle.class_desc.specs.declared.slot.Item.{Item}
use Rattle.class_desc.specs.declared.slot.Item.TheVariants as items
use Rattle.class_desc.specs.declared.field.TypeCode.{TypeCode}
use Rattle.class_desc.specs.declared.field.TypeCode.TheVariants as codes
use Rattle.class_desc.specs.declared.field.FieldDesc.{FieldDesc}
use Rattle.class_desc.specs.declared.desc.ClassDesc.{ClassDesc}
use Rattle.class_desc.specs.TypeCode.{is_primitive}
use Rattle.class_desc.specs.TypeText.{code_of}
use Rattle.class_desc.specs.ClassDesc.{HasGoodFlags, are_ordered}
use Rattle.ser_values.specs.declared.node.Node.{Node}
use Rattle.ser_values.specs.declared.node.Node.TheVariants as nodes
use Rattle.suid_calc.specs.declared.outline.Member.{Member}
use Rattle.suid_calc.specs.declared.outline.Member.TheVariants.{Field}
use Rattle.suid_calc.specs.declared.outline.ClassOutline.{ClassOutline}
use Rattle.suid_calc.specs.declared.description.TheConstants.{MAX_FIELDS}
use Rattle.suid_calc.specs.declared.description.DescribeFault.{DescribeFault}
use Rattle.suid_calc.specs.declared.description.DescribeFault.TheVariants.{TooManyFields, OutOfMemory}
use Rattle.suid_calc.specs.Members.{name_of}
use Rattle.suid_calc.specs.Text.{has_bit}
use Rattle.suid_calc.specs.Whole.{number_of}

-- ---- fields

-- A field that is neither static (8) nor transient (128).
abbrev pub is_serial : Member → Bool
is_serial (Field modifiers name type_text) = not (has_bit modifiers 8) && not (has_bit modifiers 128)
is_serial _ = false

-- The text of a field's type.
abbrev pub type_of : Member → List ℕ
type_of (Field modifiers name type_text) = type_text
type_of _ = []

-- The type that a text names: its first letter says which.
abbrev pub code_in : List ℕ → TypeCode
code_in [] = codes.Object
code_in (c ∷ t) = unwrap_or (code_of c) codes.Object

abbrev pub is_primitive_field : Member → Bool
is_primitive_field m = is_serial m && is_primitive (code_in (type_of m))

abbrev pub is_reference_field : Member → Bool
is_reference_field m = is_serial m && not (is_primitive (code_in (type_of m)))

-- ---- type texts

abbrev pub same_text : List ℕ → List ℕ → Bool
same_text a b = pointwise nat_eq a b

-- The texts, and this one behind them unless it is one of them.
abbrev pub with_text : List (List ℕ) → List ℕ → List (List ℕ)
with_text texts t = if list_any (same_text t) texts then texts else texts ++ t ∷ []

abbrev pub with_type : List (List ℕ) → Member → List (List ℕ)
with_type texts m = if is_reference_field m then with_text texts (type_of m) else texts

-- The type texts of the reference fields, each once, in the order in which the fields first name them.
abbrev pub texts_of : List Member → List (List ℕ)
texts_of members = fold with_type [] members

-- Where a text stands among texts; their count where it is none of them.
abbrev pub place_in : List (List ℕ) → List ℕ → ℕ
place_in texts t = position_or_len (same_text t) texts

-- Kept texts, as lists of bytes.
abbrev pub texts_in : {Z : Type 0} → List (Vec ℕ Z) → List (List ℕ)
texts_in keys = map (λ k. k.items) keys

-- ---- the description

-- A field's type text as a node: null for a primitive type; the description is node 0, and the texts follow it.
abbrev pub slot_in : List (List ℕ) → List ℕ → Slot
slot_in texts t = if is_primitive (code_in t) then slots.Null else slots.Node (suc (place_in texts t))

abbrev pub field_of : List (List ℕ) → Member → FieldDesc
field_of texts m = record { code = code_in (type_of m); name = name_of m; type_text = slot_in texts (type_of m) }

-- The fields that are neither static nor transient: first the primitive ones, then the others, each group in the order of the members.
abbrev pub fields_of : List (List ℕ) → List Member → List FieldDesc
fields_of texts members =
    map (field_of texts) (filter is_primitive_field members) ++ map (field_of texts) (filter is_reference_field members)

-- Items that are one reference.
abbrev pub one_item : Slot → List Item
one_item slot = items.Ref slot ∷ []

-- A serializable class (2) with the name, the number and the fields of the outline. Its annotation is one null, as RMI writes it for a
-- class that has no codebase (Java RMI Specification, 10.2). It has no superclass.
abbrev pub desc_with : List (List ℕ) → ClassOutline → ClassDesc
desc_with texts o = record {
  name = o.name;
  suid = number_of o;
  flags = 2;
  fields = fields_of texts o.members;
  note = one_item slots.Null;
  parent = slots.Null;
}

-- The description of the outline's class.
abbrev pub desc_of : ClassOutline → ClassDesc
desc_of o = desc_with (texts_of o.members) o

abbrev pub nodes_with : List (List ℕ) → ClassOutline → List Node
nodes_with texts o = nodes.Desc (desc_with texts o) ∷ map (λ t. nodes.Text t) texts

-- The description, and behind it the type texts of its fields.
abbrev pub nodes_of : ClassOutline → List Node
nodes_of o = nodes_with (texts_of o.members) o

-- One item: the description.
abbrev pub items_of : List Item
items_of = one_item (slots.Node 0)

-- The description passes the check of descriptions.
abbrev pub IsChecked : ClassOutline → Type 0
IsChecked o = HasGoodFlags (desc_of o) × IsTrue (are_ordered (desc_of o).fields)

-- How many fields are neither static nor transient.
abbrev pub count_of : ClassOutline → ℕ
count_of o = length (filter is_serial o.members)

-- Why there is no description: there are too many fields, or there was no memory.
abbrev pub IsUndescribed : ClassOutline → DescribeFault → Type 0
IsUndescribed o TooManyFields = MAX_FIELDS < count_of o
IsUndescribed o OutOfMemory = Unit {0}
