-- Streams and what reading answers, computed: texts, shared nodes, blocks that join, and the first faults with their positions.
use Rattle.std.proofs.Common.{◌≡◌, ◌<◌, ℕ, List, [], ◌∷◌, Result, Ok, Err, refl, arith}
use Rattle.std.specs.Int.{w64, cast_signed}
use Rattle.mod_utf.specs.Decoding.{decoded_at, front}
use Rattle.class_desc.specs.declared.slot.Slot.TheVariants as slots
use Rattle.class_desc.specs.declared.slot.Item.{Item}
use Rattle.class_desc.specs.declared.slot.Item.TheVariants as items
use Rattle.class_desc.specs.declared.field.TypeCode.TheVariants as codes
use Rattle.class_desc.specs.declared.field.FieldDesc.{FieldDesc}
use Rattle.class_desc.specs.declared.desc.ClassDesc.{ClassDesc}
use Rattle.ser_values.specs.declared.value.Part.{Part}
use Rattle.ser_values.specs.declared.value.Value.TheVariants as values
use Rattle.class_desc.specs.TypeText.{element_of, is_array_text, is_component_text, ends_class}
use Rattle.class_desc.specs.ClassDesc.{is_good_desc, fit_flags, are_ordered}
use Rattle.ser_values.specs.declared.value.Values.TheVariants.{Refs}
use Rattle.ser_values.specs.declared.node.Node.{Node}
use Rattle.ser_values.specs.declared.node.Node.TheVariants.{Text, Desc, Object, Array}
use Rattle.ser_values.specs.declared.node.SlotPlace.TheVariants.{Reference}
use Rattle.ser_values.specs.Node.{has, is_desc}
use Rattle.ser_values.specs.Numbered.{IsGraph}
use Rattle.stream_grammar.specs.Spelled.{IsStream}
use Rattle.stream_grammar.specs.Faults.{slot_but, stream_but, ComesTo}
use Rattle.stream_grammar.specs.Reading.{Fault, short, bad, bad_magic, bad_code, bad_handle, wrong_handle_kind, bad_desc, bad_utf, negative_length, reset, inner_exception, old_external, size_at, units_at, short_at, long_at, many_at, blocks_at, items_at, field_of, field_at, elements_at, sizes_of, chain_of, note_at, parts_at, values_at, value_at, text_at, desc_after, desc_at, with_class, object_after, object_at, array_of, array_at, fresh_at, handle_at, coded, slot_at, magic_at, stream_of}

abbrev pub Answer : Type 0
Answer = Result (List Node × List Item) Fault

abbrev reads : List Node → List Item → Answer
reads nodes is = Ok (nodes, is)

abbrev pub fails : Fault → Answer
fails f = Err f

abbrev pub after_head : List ℕ → Answer
after_head bytes = stream_of (0xAC ∷ 0xED ∷ 0x00 ∷ 0x05 ∷ bytes)

-- a serializable class with the annotation null and no superclass
abbrev desc : List ℕ → ℕ → List FieldDesc → ClassDesc
desc name suid fields = record { name = name; suid = cast_signed w64 suid; flags = 2; fields = fields; note = items.Ref slots.Null ∷ []; parent = slots.Null }

abbrev next : FieldDesc
next = record { code = codes.Object; name = 0x6E ∷ 0x65 ∷ 0x78 ∷ 0x74 ∷ []; type_text = slots.Node 1 }

abbrev own : Part
own = record { values = values.Ref (slots.Node 2) ∷ []; note = [] }

-- ---- what is read

a_text : after_head (0x74 ∷ 0x00 ∷ 0x01 ∷ 0x61 ∷ []) ≡ reads (Text (0x61 ∷ []) ∷ []) (items.Ref (slots.Node 0) ∷ [])
unfolding stream_of magic_at items_at blocks_at slot_at coded fresh_at text_at short_at units_at decoded_at front
a_text = refl

-- a text of a length of 64 bits, null, and the text again
a_shared_text : after_head (0x7C ∷ 0x00 ∷ 0x00 ∷ 0x00 ∷ 0x00 ∷ 0x00 ∷ 0x00 ∷ 0x00 ∷ 0x01 ∷ 0x61 ∷ 0x70 ∷ 0x71 ∷ 0x00 ∷ 0x7E ∷ 0x00 ∷ 0x00 ∷ []) ≡ reads (Text (0x61 ∷ []) ∷ []) (items.Ref (slots.Node 0) ∷ items.Ref slots.Null ∷ items.Ref (slots.Node 0) ∷ [])
unfolding stream_of magic_at items_at blocks_at slot_at coded fresh_at text_at long_at size_at units_at decoded_at front handle_at
a_shared_text = refl

-- an empty block, and two that join
blocks : after_head (0x77 ∷ 0x00 ∷ 0x77 ∷ 0x01 ∷ 0x05 ∷ 0x7A ∷ 0x00 ∷ 0x00 ∷ 0x00 ∷ 0x02 ∷ 0x06 ∷ 0x07 ∷ []) ≡ reads [] (items.Bytes (0x05 ∷ 0x06 ∷ 0x07 ∷ []) ∷ [])
unfolding stream_of magic_at items_at blocks_at size_at
blocks = refl

-- an array of two references to one text
an_array : after_head (0x75 ∷ 0x72 ∷ 0x00 ∷ 0x13 ∷ 0x5B ∷ 0x4C ∷ 0x6A ∷ 0x61 ∷ 0x76 ∷ 0x61 ∷ 0x2E ∷ 0x6C ∷ 0x61 ∷ 0x6E ∷ 0x67 ∷ 0x2E ∷ 0x53 ∷ 0x74 ∷ 0x72 ∷ 0x69 ∷ 0x6E ∷ 0x67 ∷ 0x3B ∷ 0xAD ∷ 0xD2 ∷ 0x56 ∷ 0xE7 ∷ 0xE9 ∷ 0x1D ∷ 0x7B ∷ 0x47 ∷ 0x02 ∷ 0x00 ∷ 0x00 ∷ 0x70 ∷ 0x78 ∷ 0x70 ∷ 0x00 ∷ 0x00 ∷ 0x00 ∷ 0x02 ∷ 0x74 ∷ 0x00 ∷ 0x01 ∷ 0x61 ∷ 0x71 ∷ 0x00 ∷ 0x7E ∷ 0x00 ∷ 0x02 ∷ []) ≡ reads (Desc (desc (0x5B ∷ 0x4C ∷ 0x6A ∷ 0x61 ∷ 0x76 ∷ 0x61 ∷ 0x2E ∷ 0x6C ∷ 0x61 ∷ 0x6E ∷ 0x67 ∷ 0x2E ∷ 0x53 ∷ 0x74 ∷ 0x72 ∷ 0x69 ∷ 0x6E ∷ 0x67 ∷ 0x3B ∷ []) 0xADD256E7E91D7B47 []) ∷ Array 0 (Refs (slots.Node 2 ∷ slots.Node 2 ∷ [])) ∷ Text (0x61 ∷ []) ∷ []) (items.Ref (slots.Node 1) ∷ [])
unfolding stream_of magic_at items_at blocks_at slot_at coded fresh_at with_class desc_at desc_after text_at short_at units_at decoded_at front size_at many_at is_good_desc fit_flags are_ordered array_at array_of elements_at element_of is_array_text is_component_text ends_class handle_at has
an_array = refl

-- an object whose field is the object itself
a_circle : after_head (0x73 ∷ 0x72 ∷ 0x00 ∷ 0x01 ∷ 0x4E ∷ 0x00 ∷ 0x00 ∷ 0x00 ∷ 0x00 ∷ 0x00 ∷ 0x00 ∷ 0x00 ∷ 0x00 ∷ 0x02 ∷ 0x00 ∷ 0x01 ∷ 0x4C ∷ 0x00 ∷ 0x04 ∷ 0x6E ∷ 0x65 ∷ 0x78 ∷ 0x74 ∷ 0x74 ∷ 0x00 ∷ 0x03 ∷ 0x4C ∷ 0x4E ∷ 0x3B ∷ 0x70 ∷ 0x78 ∷ 0x70 ∷ 0x71 ∷ 0x00 ∷ 0x7E ∷ 0x00 ∷ 0x02 ∷ []) ≡ reads (Desc (desc (0x4E ∷ []) 0 (next ∷ [])) ∷ Text (0x4C ∷ 0x4E ∷ 0x3B ∷ []) ∷ Object 0 (own ∷ []) ∷ []) (items.Ref (slots.Node 2) ∷ [])
unfolding stream_of magic_at items_at blocks_at slot_at coded fresh_at with_class desc_at desc_after text_at short_at units_at decoded_at front size_at many_at field_at field_of is_good_desc fit_flags are_ordered object_at object_after sizes_of chain_of parts_at note_at values_at value_at element_of ends_class handle_at has
a_circle = refl

-- ---- the first fault

a_wrong_version : stream_of (0xAC ∷ 0xED ∷ 0x00 ∷ 0x06 ∷ []) ≡ fails (bad bad_magic 3)
unfolding stream_of magic_at
a_wrong_version = refl

a_short_text : after_head (0x74 ∷ 0x00 ∷ 0x05 ∷ 0x00 ∷ []) ≡ fails short
unfolding stream_of magic_at items_at blocks_at slot_at coded fresh_at text_at short_at units_at
a_short_text = refl

-- with 61 behind it, it is a_text
a_cut_text : after_head (0x74 ∷ 0x00 ∷ 0x01 ∷ []) ≡ fails short
unfolding stream_of magic_at items_at blocks_at slot_at coded fresh_at text_at short_at units_at
a_cut_text = refl

a_zero_byte : after_head (0x74 ∷ 0x00 ∷ 0x02 ∷ 0x61 ∷ 0x00 ∷ []) ≡ fails (bad bad_utf 8)
unfolding stream_of magic_at items_at blocks_at slot_at coded fresh_at text_at short_at units_at decoded_at front
a_zero_byte = refl

no_handle : after_head (0x71 ∷ 0x00 ∷ 0x7E ∷ 0x00 ∷ 0x00 ∷ []) ≡ fails (bad bad_handle 4)
unfolding stream_of magic_at items_at blocks_at slot_at coded handle_at
no_handle = refl

a_negative_length : after_head (0x7A ∷ 0xFF ∷ 0xFF ∷ 0xFF ∷ 0xFF ∷ []) ≡ fails (bad negative_length 5)
unfolding stream_of magic_at items_at blocks_at size_at
a_negative_length = refl

a_cut_length : after_head (0x7A ∷ 0xFF ∷ []) ≡ fails short
unfolding stream_of magic_at items_at blocks_at size_at
a_cut_length = refl

a_reset : after_head (0x70 ∷ 0x79 ∷ []) ≡ fails (bad reset 5)
unfolding stream_of magic_at items_at blocks_at slot_at coded
a_reset = refl

an_inner_exception : after_head (0x7B ∷ []) ≡ fails (bad inner_exception 4)
unfolding stream_of magic_at items_at blocks_at slot_at coded
an_inner_exception = refl

an_end_of_no_annotation : after_head (0x78 ∷ []) ≡ fails (bad bad_code 4)
unfolding stream_of magic_at items_at blocks_at slot_at coded
an_end_of_no_annotation = refl

-- an object whose class is a text
a_text_for_a_class : after_head (0x74 ∷ 0x00 ∷ 0x00 ∷ 0x73 ∷ 0x71 ∷ 0x00 ∷ 0x7E ∷ 0x00 ∷ 0x00 ∷ []) ≡ fails (bad wrong_handle_kind 8)
unfolding stream_of magic_at items_at blocks_at slot_at coded fresh_at text_at short_at units_at decoded_at with_class handle_at has is_desc
a_text_for_a_class = refl

-- an externalizable class without block data
an_old_external : after_head (0x73 ∷ 0x72 ∷ 0x00 ∷ 0x01 ∷ 0x4E ∷ 0x00 ∷ 0x00 ∷ 0x00 ∷ 0x00 ∷ 0x00 ∷ 0x00 ∷ 0x00 ∷ 0x00 ∷ 0x04 ∷ 0x00 ∷ 0x00 ∷ 0x78 ∷ 0x70 ∷ []) ≡ fails (bad old_external 4)
unfolding stream_of magic_at items_at blocks_at slot_at coded fresh_at with_class desc_at desc_after short_at units_at decoded_at front size_at many_at object_at sizes_of chain_of is_good_desc fit_flags are_ordered
an_old_external = refl

-- the flag of a write method without that of a serializable class
bad_flags : after_head (0x72 ∷ 0x00 ∷ 0x01 ∷ 0x4E ∷ 0x00 ∷ 0x00 ∷ 0x00 ∷ 0x00 ∷ 0x00 ∷ 0x00 ∷ 0x00 ∷ 0x00 ∷ 0x01 ∷ 0x00 ∷ 0x00 ∷ []) ≡ fails (bad bad_desc 4)
unfolding stream_of magic_at items_at blocks_at slot_at coded fresh_at desc_at desc_after short_at units_at decoded_at front size_at many_at is_good_desc fit_flags are_ordered
bad_flags = refl

-- a reference field before a primitive one
fields_out_of_order : after_head (0x72 ∷ 0x00 ∷ 0x01 ∷ 0x4E ∷ 0x00 ∷ 0x00 ∷ 0x00 ∷ 0x00 ∷ 0x00 ∷ 0x00 ∷ 0x00 ∷ 0x00 ∷ 0x02 ∷ 0x00 ∷ 0x02 ∷ 0x4C ∷ 0x00 ∷ 0x01 ∷ 0x61 ∷ 0x74 ∷ 0x00 ∷ 0x03 ∷ 0x4C ∷ 0x4E ∷ 0x3B ∷ 0x42 ∷ 0x00 ∷ 0x01 ∷ 0x62 ∷ []) ≡ fails (bad bad_desc 4)
unfolding stream_of magic_at items_at blocks_at slot_at coded fresh_at desc_at desc_after text_at short_at units_at decoded_at front size_at many_at field_at field_of is_good_desc fit_flags are_ordered ends_class
fields_out_of_order = refl

-- a field of no type
no_letter : after_head (0x72 ∷ 0x00 ∷ 0x01 ∷ 0x4E ∷ 0x00 ∷ 0x00 ∷ 0x00 ∷ 0x00 ∷ 0x00 ∷ 0x00 ∷ 0x00 ∷ 0x00 ∷ 0x02 ∷ 0x00 ∷ 0x01 ∷ 0x41 ∷ []) ≡ fails (bad bad_desc 4)
unfolding stream_of magic_at items_at blocks_at slot_at coded fresh_at desc_at desc_after short_at units_at decoded_at front size_at many_at field_at field_of
no_letter = refl

-- an array's field with the text of a class
a_class_for_an_array : after_head (0x72 ∷ 0x00 ∷ 0x01 ∷ 0x4E ∷ 0x00 ∷ 0x00 ∷ 0x00 ∷ 0x00 ∷ 0x00 ∷ 0x00 ∷ 0x00 ∷ 0x00 ∷ 0x02 ∷ 0x00 ∷ 0x01 ∷ 0x5B ∷ 0x00 ∷ 0x01 ∷ 0x61 ∷ 0x74 ∷ 0x00 ∷ 0x03 ∷ 0x4C ∷ 0x4E ∷ 0x3B ∷ []) ≡ fails (bad bad_desc 4)
unfolding stream_of magic_at items_at blocks_at slot_at coded fresh_at desc_at desc_after text_at short_at units_at decoded_at front size_at many_at field_at field_of element_of is_array_text
a_class_for_an_array = refl

-- a description that is its own superclass
a_class_in_itself : after_head (0x72 ∷ 0x00 ∷ 0x01 ∷ 0x4E ∷ 0x00 ∷ 0x00 ∷ 0x00 ∷ 0x00 ∷ 0x00 ∷ 0x00 ∷ 0x00 ∷ 0x00 ∷ 0x02 ∷ 0x00 ∷ 0x00 ∷ 0x78 ∷ 0x71 ∷ 0x00 ∷ 0x7E ∷ 0x00 ∷ 0x00 ∷ []) ≡ fails (bad bad_desc 20)
unfolding stream_of magic_at items_at blocks_at slot_at coded fresh_at desc_at desc_after short_at units_at decoded_at front size_at many_at is_good_desc fit_flags are_ordered handle_at has
a_class_in_itself = refl

-- null where a class is wanted
a_null_for_a_class : after_head (0x73 ∷ 0x70 ∷ []) ≡ fails (bad bad_code 5)
unfolding stream_of magic_at items_at blocks_at slot_at coded fresh_at with_class
a_null_for_a_class = refl

-- a byte behind the last code
no_code : after_head (0x70 ∷ 0x7F ∷ []) ≡ fails (bad bad_code 5)
unfolding stream_of magic_at items_at blocks_at slot_at coded
no_code = refl

-- a number below that of the first handle
a_low_handle : after_head (0x74 ∷ 0x00 ∷ 0x00 ∷ 0x71 ∷ 0x00 ∷ 0x7D ∷ 0xFF ∷ 0xFF ∷ []) ≡ fails (bad bad_handle 7)
unfolding stream_of magic_at items_at blocks_at slot_at coded fresh_at text_at short_at units_at decoded_at handle_at
a_low_handle = refl

-- the handle of the next node
a_high_handle : after_head (0x74 ∷ 0x00 ∷ 0x00 ∷ 0x71 ∷ 0x00 ∷ 0x7E ∷ 0x00 ∷ 0x01 ∷ []) ≡ fails (bad bad_handle 7)
unfolding stream_of magic_at items_at blocks_at slot_at coded fresh_at text_at short_at units_at decoded_at handle_at
a_high_handle = refl

-- one handle was given there, of a text
a_handle_given : ComesTo 12 (0xAC ∷ 0xED ∷ 0x00 ∷ 0x05 ∷ 0x74 ∷ 0x00 ∷ 0x00 ∷ 0x71 ∷ 0x00 ∷ 0x7E ∷ 0x00 ∷ 0x01 ∷ []) 7 (record { left = 200; place = Reference; unread = []; now = record { nodes = Text [] ∷ []; parts = 1 } })
unfolding stream_but magic_at items_at blocks_at slot_but coded fresh_at text_at short_at units_at decoded_at
a_handle_given fault = refl

-- a length of 64 bits
a_negative_text : after_head (0x7C ∷ 0x80 ∷ 0x00 ∷ 0x00 ∷ 0x00 ∷ 0x00 ∷ 0x00 ∷ 0x00 ∷ 0x00 ∷ []) ≡ fails (bad negative_length 5)
unfolding stream_of magic_at items_at blocks_at slot_at coded fresh_at text_at long_at size_at
a_negative_text = refl

-- A unit is a number of 16 bits: no bytes are a stream of a text with a unit past 65,535.
no_wide_text : (contents : List Item) (bytes : List ℕ) → IsStream (Text (65536 ∷ []) ∷ []) contents bytes → ⊥
no_wide_text contents bytes h = absurd (let small : 65536 < 65536 = h.units 0 (Text []) (omega arith) 0 0 (omega arith) in omega arith)

-- A byte is a number of 8 bits: no items have one past 255.
no_wide_byte : (nodes : List Node) → IsGraph nodes (items.Bytes (256 ∷ []) ∷ []) → ⊥
no_wide_byte nodes h = absurd (let small : 256 < 256 = h.bytes 0 (items.Bytes []) (omega arith) 0 0 (omega arith) in omega arith)
