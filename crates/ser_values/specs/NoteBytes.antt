-- One byte of an object's note is written over.
use Rattle.std.specs.Prelude.{ℕ, List, Option, Some, None, option_map, slice_get}
use Rattle.class_desc.specs.declared.slot.Item.{Item}
use Rattle.class_desc.specs.declared.slot.Item.TheVariants as items
use Rattle.ser_values.specs.declared.value.Part.{Part}
use Rattle.ser_values.specs.declared.node.Node.{Node}
use Rattle.ser_values.specs.declared.node.Node.TheVariants.{Object}
use Rattle.ser_values.specs.declared.note_bytes.NotePlace.{NotePlace}
use Rattle.ser_values.specs.Builder.{put}

abbrev pub byte_to : ℕ → Option ℕ → Option ℕ
byte_to b None = None
byte_to b (Some x) = Some b

abbrev pub item_to : ℕ → ℕ → Option Item → Option Item
item_to offset b (Some (items.Bytes bytes)) = option_map (λ l. items.Bytes l) (put bytes offset (byte_to b (slice_get bytes offset)))
item_to offset b _ = None

abbrev pub note_to : ℕ → ℕ → ℕ → Option Part → Option Part
note_to item offset b None = None
note_to item offset b (Some p) = option_map (λ is. record p { note = is }) (put p.note item (item_to offset b (slice_get p.note item)))

abbrev pub object_to : ℕ → ℕ → ℕ → ℕ → Option Node → Option Node
object_to part item offset b (Some (Object c ps)) = option_map (λ qs. Object c qs) (put ps part (note_to item offset b (slice_get ps part)))
object_to part item offset b _ = None

-- The nodes with that byte at a place of a note; None where no byte stands there.
abbrev pub with_note_byte : List Node → NotePlace → ℕ → Option (List Node)
with_note_byte nodes at b = put nodes at.node (object_to at.part at.item at.offset b (slice_get nodes at.node))
