-- Numbers in the ranges of their types: those of a graph are, since bytes show a number only as far as its type's width.
use Rattle.std.specs.Prelude.{◌<◌, ◌^◌, ℕ, FitsSigned, List, All}
use Rattle.std.specs.Int.{w16, w32, w64}
use Rattle.class_desc.specs.declared.slot.Item.{Item}
use Rattle.class_desc.specs.declared.slot.Item.TheVariants as items
use Rattle.class_desc.specs.declared.field.FieldDesc.{FieldDesc}
use Rattle.class_desc.specs.declared.desc.ClassDesc.{ClassDesc}
use Rattle.ser_values.specs.declared.value.Value.{Value}
use Rattle.ser_values.specs.declared.value.Value.TheVariants as values
use Rattle.ser_values.specs.declared.value.Values.{Values}
use Rattle.ser_values.specs.declared.value.Values.TheVariants as kinds
use Rattle.ser_values.specs.declared.value.Part.{Part}
use Rattle.ser_values.specs.declared.node.Node.{Node}
use Rattle.ser_values.specs.declared.node.Node.TheVariants.{Text, Desc, Proxy, Object, Array}

abbrev pub ValueFits : Value → Type 0
ValueFits (values.Byte v) = v < 2 ^ 8
ValueFits (values.Char v) = v < 2 ^ 16
ValueFits (values.Double v) = v < 2 ^ 64
ValueFits (values.Float v) = v < 2 ^ 32
ValueFits (values.Int v) = FitsSigned w32 v
ValueFits (values.Long v) = FitsSigned w64 v
ValueFits (values.Short v) = FitsSigned w16 v
ValueFits (values.Boolean v) = Unit {0}
ValueFits (values.Ref s) = Unit {0}

abbrev pub ElementsFit : Values → Type 0
ElementsFit (kinds.Bytes v) = All (λ x. x < 2 ^ 8) v
ElementsFit (kinds.Chars v) = All (λ x. x < 2 ^ 16) v
ElementsFit (kinds.Doubles v) = All (λ x. x < 2 ^ 64) v
ElementsFit (kinds.Floats v) = All (λ x. x < 2 ^ 32) v
ElementsFit (kinds.Ints v) = All (FitsSigned w32) v
ElementsFit (kinds.Longs v) = All (FitsSigned w64) v
ElementsFit (kinds.Shorts v) = All (FitsSigned w16) v
ElementsFit (kinds.Bools v) = Unit {0}
ElementsFit (kinds.Refs v) = Unit {0}

-- The bytes of an item of block data.
abbrev pub ItemFits : Item → Type 0
ItemFits (items.Bytes b) = All (λ x. x < 2 ^ 8) b
ItemFits (items.Ref s) = Unit {0}

-- Each byte of the items is one.
abbrev pub ItemsFit : List Item → Type 0
ItemsFit is = All ItemFits is

-- An object's part: its values and its note.
abbrev pub PartFits : Part → Type 0
PartFits p = All ValueFits p.values × ItemsFit p.note

-- The serialVersionUID and the note of a description, a proxy's note, the values and the notes of an object, or an array's elements.
abbrev pub NodeFits : Node → Type 0
NodeFits (Desc d) = FitsSigned w64 d.suid × ItemsFit d.note
NodeFits (Proxy p) = ItemsFit p.note
NodeFits (Object c ps) = All PartFits ps
NodeFits (Array c vs) = ElementsFit vs
NodeFits _ = Unit {0}

-- Each number and each byte of the nodes is in its type's range.
abbrev pub NumbersFit : List Node → Type 0
NumbersFit nodes = All NodeFits nodes

-- The units of a text or a name.
abbrev pub TextFits : List ℕ → Type 0
TextFits t = All (λ u. u < 2 ^ 16) t

-- Those of a field's name.
abbrev pub NameFits : FieldDesc → Type 0
NameFits f = TextFits f.name

-- The units of a text, of a description's and its fields' names, or of a proxy's names.
abbrev pub UnitsFitIn : Node → Type 0
UnitsFitIn (Text t) = TextFits t
UnitsFitIn (Desc d) = TextFits d.name × All NameFits d.fields
UnitsFitIn (Proxy p) = All TextFits p.names
UnitsFitIn _ = Unit {0}

-- Each unit of the nodes' texts and names is in its type's range.
abbrev pub UnitsFit : List Node → Type 0
UnitsFit nodes = All UnitsFitIn nodes

-- The numbers and the units of one node.
abbrev pub InRange : Node → Type 0
InRange i = NodeFits i × UnitsFitIn i

-- Those of a description.
abbrev pub DescFits : ClassDesc → Type 0
DescFits d = InRange (Desc d)
