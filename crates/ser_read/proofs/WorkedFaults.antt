-- The first fault that stands in some bytes, computed: one row for each kind that has no row where reading is defined.
use Rattle.std.proofs.Common.{◌≡◌, ℕ, List, [], ◌∷◌, length, take, Some, Result, Ok, Err, refl}
use Rattle.std.specs.Int.{w64, cast_signed}
use Rattle.mod_utf.specs.Decoding.{decoded_at, front}
use Rattle.class_desc.specs.declared.slot.Slot.{Slot}
use Rattle.class_desc.specs.declared.slot.Slot.TheVariants as slots
use Rattle.class_desc.specs.declared.slot.Item.{Item}
use Rattle.class_desc.specs.declared.slot.Item.TheVariants as items
use Rattle.class_desc.specs.TypeText.{element_of, is_array_text, is_component_text, ends_class}
use Rattle.class_desc.specs.ClassDesc.{is_good_desc, fit_flags, are_ordered}
use Rattle.ser_values.specs.declared.node.Node.TheVariants.{Desc}
use Rattle.ser_values.specs.declared.node.SlotPlace.TheVariants.{Reference}
use Rattle.stream_grammar.specs.Reading.{Fault, Progress, short, bad, too_many, too_deep, bad_desc, negative_length, stream_of, magic_at, items_at, blocks_at, slot_at, coded, fresh_at, desc_at, desc_after, short_at, units_at, size_at, many_at, field_at, field_of, text_at, with_class, object_at, chain_of, sizes_of, array_at, array_of, enum_at}
use Rattle.stream_grammar.proofs.WorkedStreams.{fails, after_head}
use Rattle.ser_read.specs.declared.fault.StreamFault.TheVariants.{TooLarge}
use Rattle.ser_read.specs.declared.fault.Large.TheVariants.{Bytes}
use Rattle.ser_read.specs.declared.serving.Want.TheVariants as wanted
use Rattle.ser_read.specs.Here.{env_at}
use Rattle.ser_read.specs.Whole.{stream_at, going_on}
use Rattle.ser_read.specs.Named.{add_bytes}
use Rattle.ser_read.specs.Heads.{one_head, any_head, head_within}
use Rattle.ser_read.specs.Heading.{inside_block}
use Rattle.ser_read.specs.Wants.{WantFault, missing_block, block_left, nothing_read, Stand, no_block, opened_at, run_at, bytes_at, slot_next, want_at, serve, close_at}
use Rattle.ser_read.proofs.InOrder.{Serving}

a_wrong_field_code : after_head (0x72 ∷ 0x00 ∷ 0x01 ∷ 0x4E ∷ 0x00 ∷ 0x00 ∷ 0x00 ∷ 0x00 ∷ 0x00 ∷ 0x00 ∷ 0x00 ∷ 0x00 ∷ 0x02 ∷ 0x00 ∷ 0x01 ∷ 0x51 ∷ []) ≡ fails (bad bad_desc 4)
unfolding stream_of magic_at items_at blocks_at slot_at coded fresh_at desc_at short_at units_at decoded_at front desc_after size_at many_at field_at field_of
a_wrong_field_code = refl

too_many_fields : after_head (0x72 ∷ 0x00 ∷ 0x01 ∷ 0x4E ∷ 0x00 ∷ 0x00 ∷ 0x00 ∷ 0x00 ∷ 0x00 ∷ 0x00 ∷ 0x00 ∷ 0x00 ∷ 0x02 ∷ 0x80 ∷ 0x00 ∷ []) ≡ fails (bad negative_length 17)
unfolding stream_of magic_at items_at blocks_at slot_at coded fresh_at desc_at short_at units_at decoded_at front desc_after size_at many_at
too_many_fields = refl

a_wrong_type_text : after_head (0x72 ∷ 0x00 ∷ 0x01 ∷ 0x4E ∷ 0x00 ∷ 0x00 ∷ 0x00 ∷ 0x00 ∷ 0x00 ∷ 0x00 ∷ 0x00 ∷ 0x00 ∷ 0x02 ∷ 0x00 ∷ 0x01 ∷ 0x4C ∷ 0x00 ∷ 0x01 ∷ 0x61 ∷ 0x74 ∷ 0x00 ∷ 0x01 ∷ 0x58 ∷ []) ≡ fails (bad bad_desc 4)
unfolding stream_of magic_at items_at blocks_at slot_at coded fresh_at desc_at short_at units_at decoded_at front desc_after size_at many_at field_at field_of text_at ends_class is_component_text is_array_text element_of
a_wrong_type_text = refl

no_class_of_objects : after_head (0x73 ∷ 0x72 ∷ 0x00 ∷ 0x01 ∷ 0x4E ∷ 0x00 ∷ 0x00 ∷ 0x00 ∷ 0x00 ∷ 0x00 ∷ 0x00 ∷ 0x00 ∷ 0x00 ∷ 0x00 ∷ 0x00 ∷ 0x00 ∷ 0x78 ∷ 0x70 ∷ []) ≡ fails (bad bad_desc 4)
unfolding stream_of magic_at items_at blocks_at slot_at coded fresh_at desc_at short_at units_at decoded_at front desc_after size_at many_at is_good_desc fit_flags are_ordered with_class object_at chain_of sizes_of element_of is_array_text is_component_text ends_class
no_class_of_objects = refl

no_class_of_arrays : after_head (0x75 ∷ 0x72 ∷ 0x00 ∷ 0x01 ∷ 0x4E ∷ 0x00 ∷ 0x00 ∷ 0x00 ∷ 0x00 ∷ 0x00 ∷ 0x00 ∷ 0x00 ∷ 0x00 ∷ 0x02 ∷ 0x00 ∷ 0x00 ∷ 0x78 ∷ 0x70 ∷ []) ≡ fails (bad bad_desc 4)
unfolding stream_of magic_at items_at blocks_at slot_at coded fresh_at desc_at short_at units_at decoded_at front desc_after size_at many_at is_good_desc fit_flags are_ordered with_class array_at array_of element_of is_array_text is_component_text ends_class
no_class_of_arrays = refl

no_class_of_enums : after_head (0x7E ∷ 0x72 ∷ 0x00 ∷ 0x01 ∷ 0x4E ∷ 0x00 ∷ 0x00 ∷ 0x00 ∷ 0x00 ∷ 0x00 ∷ 0x00 ∷ 0x00 ∷ 0x00 ∷ 0x02 ∷ 0x00 ∷ 0x00 ∷ 0x78 ∷ 0x70 ∷ []) ≡ fails (bad bad_desc 4)
unfolding stream_of magic_at items_at blocks_at slot_at coded fresh_at desc_at short_at units_at decoded_at front desc_after size_at many_at is_good_desc fit_flags are_ordered with_class enum_at
no_class_of_enums = refl

abbrev Referred : Type 0
Referred = Result (Slot × Progress × List ℕ) Fault

abbrev slot_fails : Fault → Referred
slot_fails f = Err f

a_level_too_deep : slot_at 1 0 Reference [] (record { nodes = []; parts = 0 }) (0x74 ∷ []) ≡ slot_fails (too_deep 0)
unfolding slot_at coded
a_level_too_deep = refl

a_node_too_many : (now : Progress) → length now.nodes ≡ 65536 → slot_at 1 200 Reference [] now (0x74 ∷ []) ≡ slot_fails (too_many 0)
unfolding slot_at coded
a_node_too_many now full = rw full refl

-- an object of a class without fields, where there are as many parts as there may be
a_part_too_many : (inner : Progress → List ℕ → Referred) → object_at 0 0 inner 0 (record { nodes = Desc (record { name = 0x4E ∷ []; suid = cast_signed w64 0; flags = 2; fields = []; note = []; parent = slots.Null }) ∷ []; parts = 1048576 }) [] ≡ slot_fails (too_many 0)
unfolding object_at chain_of sizes_of
a_part_too_many inner = refl

abbrev want_fails : {A : Type 0} → WantFault → Result A WantFault
want_fails f = Err f

a_block_left : slot_next 1 (record { progress = record { nodes = []; parts = 0 }; items = []; block = 1 }) (0x70 ∷ []) ≡ want_fails (block_left 0)
unfolding slot_next
a_block_left = refl

a_missing_block : bytes_at 1 1 nothing_read (0x70 ∷ []) ≡ want_fails (missing_block 0)
unfolding bytes_at run_at opened_at head_within any_head one_head no_block
a_missing_block = refl

a_block_left_at_the_end : close_at 7 (inside_block (0x01 ∷ []) 2) ≡ want_fails (block_left 7)
unfolding close_at
a_block_left_at_the_end = refl

-- null and one byte more, where a stream may have five bytes
abbrev six : List ℕ
six = 0xAC ∷ 0xED ∷ 0x00 ∷ 0x05 ∷ 0x70 ∷ 0x70 ∷ []

too_many_bytes : (env_at (Some six) 0 5).after ≡ TooLarge Bytes 5
too_many_bytes = refl

no_end_at_the_limit : going_on (stream_at 5 (take 5 six)) ≡ fails short
unfolding stream_at magic_at items_at blocks_at slot_at coded
no_end_at_the_limit = refl

abbrev served : List Item × Stand × List ℕ → Serving
served x = Ok x

-- two bytes behind an empty block, of a block of three
a_head_in_a_block : serve 6 (wanted.Bytes 2 ∷ []) nothing_read (0x77 ∷ 0x00 ∷ 0x77 ∷ 0x03 ∷ 0x01 ∷ 0x02 ∷ []) ≡ served (items.Bytes (0x01 ∷ 0x02 ∷ []) ∷ [], inside_block (0x01 ∷ 0x02 ∷ []) 1, [])
unfolding serve want_at bytes_at run_at opened_at head_within any_head one_head add_bytes
a_head_in_a_block = refl
