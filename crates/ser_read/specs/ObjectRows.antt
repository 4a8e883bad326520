-- What is read of an object, by the types of its fields alone.
use Rattle.std.specs.Prelude.{ℕ, suc, ◌+◌, List, [], ◌∷◌, ◌++◌, length, map, Ok}
use Rattle.class_desc.specs.declared.field.TypeCode.{TypeCode}
use Rattle.class_desc.specs.declared.slot.Slot.{Slot}
use Rattle.class_desc.specs.declared.slot.Slot.TheVariants as slots
use Rattle.ser_values.specs.declared.node.Node.TheVariants.{Object}
use Rattle.ser_values.specs.declared.value.Value.{Value}
use Rattle.ser_values.specs.declared.value.Part.{Part}
use Rattle.stream_grammar.specs.Reading.{◌>>=◌, Step, Row, value_at, note_at, part, fill}
use Rattle.ser_read.specs.declared.row.ClassRow.{ClassRow}
use Rattle.ser_read.specs.Codes.{codes_of}
use Rattle.ser_read.specs.Lists.{all_at}

abbrev pub row_of : Row → ClassRow
row_of r = record { codes = codes_of r.0; note = r.1 }

abbrev pub class_rows : List Row → List ClassRow
class_rows rows = map row_of rows

unfoldable pub values_by : Step Slot → List TypeCode → Step (List Value)
values_by inner codes = all_at (value_at inner) codes

unfoldable pub part_by : ℕ → Step Slot → ClassRow → Step Part
part_by end inner r now bs = values_by inner r.codes now bs >>= λ vs. note_at end inner r.note vs.1 vs.2 >>= λ is. Ok (part vs.0 is.0, is.1, is.2)

unfoldable pub parts_by : ℕ → Step Slot → List ClassRow → Step (List Part)
parts_by end inner rows = all_at (part_by end inner) rows

-- How many parts an object of these rows has beside those of its notes.
unfoldable pub sizes_by : List ClassRow → ℕ
sizes_by [] = 0
sizes_by (r ∷ rs) = suc (length r.codes + sizes_by rs)

-- an object of a class with these rows
unfoldable pub object_by : ℕ → Step Slot → ℕ → List ClassRow → Step Slot
object_by end inner class rows now bs =
    parts_by end inner rows (record { nodes = now.nodes ++ Object class [] ∷ []; parts = now.parts + sizes_by rows }) bs >>= λ ps.
    Ok (slots.Node (length now.nodes), fill ps.1 (length now.nodes) (Object class ps.0), ps.2)
