-- The text of a graph: a line for each node, then a line for each item.
use Rattle.std.specs.Prelude.{ℕ, ℤ, ◌+◌, ◌-◌, Bool, true, false, List, [], ◌∷◌, ◌++◌, flat_map, nat_lt, if◌then◌else◌, codes, decimal}
use Rattle.std.specs.Fmt.{signed_decimal}
use Rattle.std.specs.Int.{w32, w64, to_be_bytes, cast_unsigned}
use Rattle.history.specs.Texts.{hex_byte, name_text}
use Rattle.class_desc.specs.declared.slot.Slot.{Slot}
use Rattle.class_desc.specs.declared.slot.Slot.TheVariants as slots
use Rattle.class_desc.specs.declared.slot.Item.{Item}
use Rattle.class_desc.specs.declared.slot.Item.TheVariants as items
use Rattle.class_desc.specs.declared.field.FieldDesc.{FieldDesc}
use Rattle.class_desc.specs.declared.desc.ClassDesc.{ClassDesc}
use Rattle.class_desc.specs.TypeCode.{is_primitive, letter}
use Rattle.ser_values.specs.declared.value.Value.{Value}
use Rattle.ser_values.specs.declared.value.Value.TheVariants as values
use Rattle.ser_values.specs.declared.value.Values.{Values}
use Rattle.ser_values.specs.declared.value.Values.TheVariants as kinds
use Rattle.ser_values.specs.declared.value.Part.{Part}
use Rattle.ser_values.specs.declared.node.Node.{Node}
use Rattle.ser_values.specs.declared.node.Node.TheVariants.{Text, Desc, Proxy, Object, Array, Class, Enum}
use Rattle.ser_values.specs.Shape.{count_of}

-- ---- words

-- Texts joined by commas, or `-` where there are none.
abbrev pub comma_list : {X : Type 0} → (X → List ℕ) → List X → List ℕ
comma_list text [] = codes "-"
comma_list text (x ∷ xs) = text x ++ flat_map (λ y. 44 ∷ text y) xs

-- bytes as two hexadecimal digits each
abbrev pub hex : List ℕ → List ℕ
hex bytes = flat_map hex_byte bytes

-- The node of a number.
abbrev pub node_name : ℕ → List ℕ
node_name k = 0x23 ∷ decimal k

abbrev pub slot_text : Slot → List ℕ
slot_text slots.Null = codes "null"
slot_text (slots.Node k) = node_name k

-- A reference, or a run of bytes.
abbrev pub item_text : Item → List ℕ
item_text (items.Ref s) = slot_text s
item_text (items.Bytes b) = codes "x:" ++ hex b

-- the bits of a byte as a number with a sign
abbrev pub signed_byte : ℕ → List ℕ
signed_byte v = if nat_lt v 128 then decimal v else 0x2D ∷ decimal (256 - v)

abbrev pub truth_text : Bool → List ℕ
truth_text true = codes "true"
truth_text false = codes "false"

-- The bits of a float and of a double.
abbrev pub float_text : ℕ → List ℕ
float_text bits = codes "x:" ++ hex (to_be_bytes w32 bits)

abbrev pub double_text : ℕ → List ℕ
double_text bits = codes "x:" ++ hex (to_be_bytes w64 bits)

abbrev pub value_text : Value → List ℕ
value_text (values.Byte v) = signed_byte v
value_text (values.Char v) = decimal v
value_text (values.Double v) = double_text v
value_text (values.Float v) = float_text v
value_text (values.Int v) = signed_decimal v
value_text (values.Long v) = signed_decimal v
value_text (values.Short v) = signed_decimal v
value_text (values.Boolean v) = truth_text v
value_text (values.Ref s) = slot_text s

abbrev pub values_text : Values → List ℕ
values_text (kinds.Bytes v) = comma_list signed_byte v
values_text (kinds.Chars v) = comma_list decimal v
values_text (kinds.Doubles v) = comma_list double_text v
values_text (kinds.Floats v) = comma_list float_text v
values_text (kinds.Ints v) = comma_list signed_decimal v
values_text (kinds.Longs v) = comma_list signed_decimal v
values_text (kinds.Shorts v) = comma_list signed_decimal v
values_text (kinds.Bools v) = comma_list truth_text v
values_text (kinds.Refs v) = comma_list slot_text v

-- The letter of a field's type, its name, and for a reference field the text that names its type.
abbrev pub type_text : FieldDesc → List ℕ
type_text f = if is_primitive f.code then [] else 0x3A ∷ slot_text f.type_text

abbrev pub field_text : FieldDesc → List ℕ
field_text f = letter f.code ∷ 0x3A ∷ (name_text f.name ++ type_text f)

-- What a class holds: its values and its note.
abbrev pub part_text : Part → List ℕ
part_text p = codes " (" ++ (comma_list value_text p.values ++ (32 ∷ (comma_list item_text p.note ++ codes ")")))

-- The note and the superclass of a description.
abbrev pub tail_text : List Item → Slot → List ℕ
tail_text note parent = codes " note " ++ (comma_list item_text note ++ (codes " super " ++ slot_text parent))

-- ---- lines

-- the 64 bits of a serialVersionUID
unfoldable pub suid_text : ℤ → List ℕ
suid_text suid = hex (to_be_bytes w64 (cast_unsigned w64 suid))

-- The name, the serialVersionUID and the flags of a class description.
abbrev pub class_text : ClassDesc → List ℕ
class_text d = name_text d.name ++ (32 ∷ (suid_text d.suid ++ (32 ∷ hex_byte d.flags)))

-- What stands in a node's line after its name.
abbrev pub node_text : Node → List ℕ
node_text (Text t) = codes " text " ++ name_text t
node_text (Desc d) = codes " desc " ++ (class_text d ++ (32 ∷ (comma_list field_text d.fields ++ tail_text d.note d.parent)))
node_text (Proxy p) = codes " proxy " ++ (comma_list name_text p.names ++ tail_text p.note p.parent)
node_text (Object c ps) = codes " object " ++ (node_name c ++ flat_map part_text ps)
node_text (Array c vs) = codes " array " ++ (node_name c ++ (32 ∷ (decimal (count_of vs) ++ (32 ∷ values_text vs))))
node_text (Class c) = codes " class " ++ node_name c
node_text (Enum c t) = codes " enum " ++ (node_name c ++ (32 ∷ node_name t))

abbrev pub node_line : ℕ → Node → List ℕ
node_line k node = node_name k ++ (node_text node ++ 10 ∷ [])

-- The lines of these nodes, the first of which has this number.
unfoldable pub node_lines : ℕ → List Node → List ℕ
node_lines k [] = []
node_lines k (node ∷ nodes) = node_line k node ++ node_lines (k + 1) nodes

abbrev pub item_line : Item → List ℕ
item_line item = codes "item " ++ (item_text item ++ 10 ∷ [])

-- The text of a graph.
unfoldable pub graph_text : List Node → List Item → List ℕ
graph_text nodes items = node_lines 0 nodes ++ flat_map item_line items
