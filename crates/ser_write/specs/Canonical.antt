-- The bytes that are written: each node is written where it is first wanted, and a handle stands for it from then on.
use Rattle.std.specs.Prelude.{◌≡◌, ℕ, zero, suc, ◌+◌, Bool, true, false, List, [], ◌∷◌, ◌++◌, length, take, drop, map, Option, Some, None, Result, Ok, Err, nat_eq, nat_lt, slice_get, if◌then◌else◌}
use Rattle.std.specs.List.{flat_map, AllByRecursion}
use Rattle.std.specs.Int.{w16, w32, w64, to_be_bytes, cast_unsigned, from_bool}
use Rattle.std.specs.declared.alloc.AllocError.{AllocError}
use Rattle.mod_utf.specs.Utf.{utf}
use Rattle.ser_write.specs.declared.pieces.TheConstants.{BLOCK_BYTES}
use Rattle.class_desc.specs.declared.slot.Slot.{Slot}
use Rattle.class_desc.specs.declared.slot.Slot.TheVariants as slots
use Rattle.class_desc.specs.declared.slot.Item.{Item}
use Rattle.class_desc.specs.declared.slot.Item.TheVariants as items
use Rattle.class_desc.specs.declared.desc.ClassDesc.{ClassDesc}
use Rattle.class_desc.specs.declared.field.FieldDesc.{FieldDesc}
use Rattle.class_desc.specs.ClassDesc.{has_flag}
use Rattle.class_desc.specs.TypeCode.{letter}
use Rattle.ser_values.specs.declared.value.Value.{Value}
use Rattle.ser_values.specs.declared.value.Value.TheVariants as values
use Rattle.ser_values.specs.declared.value.Part.{Part}
use Rattle.ser_values.specs.declared.value.Values.{Values}
use Rattle.ser_values.specs.declared.value.Values.TheVariants as kinds
use Rattle.ser_values.specs.declared.node.Node.{Node}
use Rattle.ser_values.specs.declared.node.Node.TheVariants.{Text, Desc, Proxy, Object, Array, Class, Enum}
use Rattle.ser_values.specs.declared.node.SlotPlace.TheVariants as places
use Rattle.ser_values.specs.Shape.{is_short, count_of}
use Rattle.ser_values.specs.declared.limits.TheConstants.{LEVELS}
use Rattle.ser_values.specs.Numbered.{IsGraph}
use Rattle.stream_grammar.specs.Spelled.{Token, raw, truth, want, note, short_text, long_text, field_tokens, element_tokens, writers, part_tokens, joined, SpellsBlocks, SpellsItems, Spells}

-- ---- block data

-- A block of at most 255 bytes has a length of 8 bits, any other one of 32.
abbrev pub block_of : List ℕ → List ℕ
block_of p = if nat_lt (length p) 256 then 0x77 ∷ length p ∷ p else 0x7A ∷ (to_be_bytes w32 (length p) ++ p)

-- at most so many pieces of 1,024 bytes, and one shorter rest
unfoldable pub pieces_in : ℕ → List ℕ → List (List ℕ)
pieces_in zero b = []
pieces_in (suc k) [] = []
pieces_in (suc k) (x ∷ b) = take BLOCK_BYTES (x ∷ b) ∷ pieces_in k (drop BLOCK_BYTES (x ∷ b))

-- Pieces of 1,024 bytes, and one shorter rest.
unfoldable pub pieces : List ℕ → List (List ℕ)
pieces b = pieces_in (length b) b

-- Each piece as a block.
abbrev pub blocks : List ℕ → List ℕ
blocks b = flat_map block_of (pieces b)

-- ---- values and texts as bytes

abbrev pub short_bytes : List ℕ → List ℕ
short_bytes t = to_be_bytes w16 (length (utf t)) ++ utf t

abbrev pub long_bytes : List ℕ → List ℕ
long_bytes t = to_be_bytes w64 (length (utf t)) ++ utf t

-- with a length of 64 bits only where 16 don't do
abbrev pub text_bytes : List ℕ → List ℕ
text_bytes t = if is_short t then short_bytes t else long_bytes t

-- the handle of a node
abbrev pub handle_bytes : ℕ → List ℕ
handle_bytes k = 0x71 ∷ to_be_bytes w32 (0x7E0000 + k)

-- a description's name and its number
abbrev pub title_bytes : ClassDesc → List ℕ
title_bytes d = short_bytes d.name ++ to_be_bytes w64 (cast_unsigned w64 d.suid)

-- a field's code and its name
abbrev pub field_bytes : FieldDesc → List ℕ
field_bytes f = letter f.code ∷ short_bytes f.name

-- how many interfaces a proxy has, and their names
abbrev pub interface_bytes : List (List ℕ) → List ℕ
interface_bytes names = to_be_bytes w32 (length names) ++ flat_map short_bytes names

-- a primitive value; a reference has no bytes of its own
abbrev pub value_bytes : Value → List ℕ
value_bytes (values.Byte v) = v ∷ []
value_bytes (values.Char v) = to_be_bytes w16 v
value_bytes (values.Double v) = to_be_bytes w64 v
value_bytes (values.Float v) = to_be_bytes w32 v
value_bytes (values.Int v) = to_be_bytes w32 (cast_unsigned w32 v)
value_bytes (values.Long v) = to_be_bytes w64 (cast_unsigned w64 v)
value_bytes (values.Short v) = to_be_bytes w16 (cast_unsigned w16 v)
value_bytes (values.Boolean v) = from_bool v ∷ []
value_bytes (values.Ref s) = []

abbrev pub primitive_bytes : Values → List ℕ
primitive_bytes (kinds.Bytes v) = v
primitive_bytes (kinds.Chars v) = flat_map (to_be_bytes w16) v
primitive_bytes (kinds.Doubles v) = flat_map (to_be_bytes w64) v
primitive_bytes (kinds.Floats v) = flat_map (to_be_bytes w32) v
primitive_bytes (kinds.Ints v) = flat_map (λ x. to_be_bytes w32 (cast_unsigned w32 x)) v
primitive_bytes (kinds.Longs v) = flat_map (λ x. to_be_bytes w64 (cast_unsigned w64 x)) v
primitive_bytes (kinds.Shorts v) = flat_map (λ x. to_be_bytes w16 (cast_unsigned w16 x)) v
primitive_bytes (kinds.Bools v) = flat_map (λ x. from_bool x ∷ []) v
primitive_bytes (kinds.Refs v) = []

-- ---- tokens as bytes

-- bytes, and how many nodes have handles afterwards
abbrev pub Written : Type 0
Written = List ℕ × ℕ

abbrev pub Writing : Type 0
Writing = ℕ → Slot → Written

-- first these bytes, and then what follows
abbrev pub before_more : Written → (ℕ → Written) → Written
before_more w f = (w.0 ++ (f w.1).0, (f w.1).1)

unfoldable pub write_items : Writing → ℕ → List Item → Written
write_items one n [] = ([], n)
write_items one n (items.Bytes b ∷ is) = before_more (blocks b, n) (λ m. write_items one m is)
write_items one n (items.Ref s ∷ is) = before_more (one n s) (λ m. write_items one m is)

abbrev pub write_token : Writing → ℕ → Token → Written
write_token one n (raw r) = (r, n)
write_token one n (truth b) = (from_bool b ∷ [], n)
write_token one n (want w) = one n w.1
write_token one n (note is) = before_more (write_items one n is) (λ m. (0x78 ∷ [], m))

unfoldable pub write_all : Writing → ℕ → List Token → Written
write_all one n [] = ([], n)
write_all one n (t ∷ ts) = before_more (write_token one n t) (λ m. write_all one m ts)

-- ---- nodes as tokens

abbrev pub code_of : Node → ℕ
code_of (Text t) = if is_short t then 0x74 else 0x7C
code_of (Desc d) = 0x72
code_of (Proxy p) = 0x7D
code_of (Object c ps) = 0x73
code_of (Array c vs) = 0x75
code_of (Class c) = 0x76
code_of (Enum c t) = 0x7E

unfoldable pub tokens_before : Node → List Token
tokens_before (Text t) = []
tokens_before (Desc d) = short_text d.name ∷ raw (to_be_bytes w64 (cast_unsigned w64 d.suid)) ∷ []
tokens_before (Proxy p) = []
tokens_before (Object c ps) = want (places.Class, slots.Node c) ∷ []
tokens_before (Array c vs) = want (places.Class, slots.Node c) ∷ []
tokens_before (Class c) = want (places.Class, slots.Node c) ∷ []
tokens_before (Enum c t) = want (places.Class, slots.Node c) ∷ []

-- what a description ends with: its annotation, and its superclass
abbrev pub ending_tokens : List Item → Slot → List Token
ending_tokens is s = note is ∷ want (places.Parent, s) ∷ []

-- an externalizable class
abbrev pub is_external_class : Option Node → Bool
is_external_class (Some (Desc d)) = has_flag d.flags 4
is_external_class _ = false

abbrev pub external_tokens : List Part → List Token
external_tokens [] = []
external_tokens (p ∷ ps) = note p.note ∷ []

-- the note of a part, where its class has a write method
abbrev pub note_tokens : Bool → List Item → List Token
note_tokens true is = note is ∷ []
note_tokens false is = []

abbrev pub object_tokens : List Node → ℕ → List Part → List Token
object_tokens nodes c ps = if is_external_class (slice_get nodes c) then external_tokens ps else part_tokens (writers nodes (length ps) (slots.Node c)) ps

-- the length of an array and its elements
abbrev pub array_tokens : Values → List Token
array_tokens vs = raw (to_be_bytes w32 (count_of vs)) ∷ element_tokens vs

unfoldable pub tokens_after : List Node → Node → List Token
tokens_after nodes (Text t) = (if is_short t then short_text t else long_text t) ∷ []
tokens_after nodes (Desc d) = raw (d.flags ∷ []) ∷ raw (to_be_bytes w16 (length d.fields)) ∷ (field_tokens d.fields ++ (note d.note ∷ want (places.Parent, d.parent) ∷ []))
tokens_after nodes (Proxy p) = raw (to_be_bytes w32 (length p.names)) ∷ (map short_text p.names ++ (note p.note ∷ want (places.Parent, p.parent) ∷ []))
tokens_after nodes (Object c ps) = object_tokens nodes c ps
tokens_after nodes (Array c vs) = array_tokens vs
tokens_after nodes (Class c) = []
tokens_after nodes (Enum c t) = want (places.Text, slots.Node t) ∷ []

-- ---- references as bytes

-- a node that has no handle: its code, what stands before its handle, and what stands after it
abbrev pub write_new : List Node → Writing → ℕ → ℕ → Option Node → Written
write_new nodes inner n k None = ([], n)
write_new nodes inner n k (Some i) = before_more (code_of i ∷ (write_all inner n (tokens_before i)).0, k + 1) (λ m. write_all inner m (tokens_after nodes i))

unfoldable pub write_one : ℕ → List Node → Writing → Writing
write_one left nodes inner n slots.Null = (0x70 ∷ [], n)
write_one left nodes inner n (slots.Node k) =
    if nat_lt k n then (0x71 ∷ to_be_bytes w32 (0x7E0000 + k), n)
    else (if nat_eq left 0 then ([], n) else write_new nodes inner n k (slice_get nodes k))

abbrev pub nothing : Writing
nothing n s = ([], n)

-- a reference, at most so many levels deep
unfoldable pub write_at : ℕ → List Node → Writing
write_at zero nodes n s = write_one zero nodes nothing n s
write_at (suc d) nodes n s = write_one (suc d) nodes (write_at d nodes) n s

-- the bytes that items begin with, and the items after them
abbrev pub front_bytes : List Item → List ℕ
front_bytes (items.Bytes b ∷ is) = b
front_bytes _ = []

abbrev pub after_front : List Item → List Item
after_front (items.Bytes b ∷ is) = is
after_front is = is

-- The bytes of a graph's items.
unfoldable pub contents : List Node → List Item → List ℕ
contents nodes items = (write_items (write_at LEVELS nodes) 0 items).0

-- The bytes of a stream: the magic number, the version, and the items.
unfoldable pub canonical : List Node → List Item → List ℕ
canonical nodes items = 0xAC ∷ 0xED ∷ 0x00 ∷ 0x05 ∷ contents nodes items

-- The bytes spell the items, whatever stands after them, and give these nodes their handles in order.
abbrev pub SpellContents : List Node → List Item → List ℕ → Type 0
SpellContents nodes items bytes = (rest : List ℕ) → ∥ SpellsItems (Spells nodes LEVELS []) items 0 (bytes ++ rest) rest (length nodes) ∥₁

-- It is no empty block.
abbrev pub IsFull : Item → Type 0
IsFull (items.Bytes []) = ⊥
IsFull (items.Bytes (b ∷ p)) = Unit {0}
IsFull (items.Ref s) = Unit {0}

-- The bytes spell the items, whatever stands after them, in blocks of which none is empty.
pub record SpellFully (nodes : List Node) (items : List Item) (bytes : List ℕ) : Type 0 where
  pub blocks : List Item
  pub full : AllByRecursion IsFull blocks
  pub same : items ≡ joined blocks
  pub spelled : (rest : List ℕ) → SpellsBlocks (Spells nodes LEVELS []) blocks 0 (bytes ++ rest) rest (length nodes)

-- The bytes are those of no other graph.
abbrev pub AreOfNoOther : List Node → List Item → List ℕ → Type 0
AreOfNoOther nodes items bytes =
    (others : List Node) (their_items : List Item) → ∥ IsGraph others their_items ∥₁ → canonical others their_items ≡ bytes → ∥ (others ≡ nodes) × (their_items ≡ items) ∥₁

-- The list begins with what stood there before.
pub record Begins (old new : List ℕ) : Type 0 where
  pub more : List ℕ
  pub is : new ≡ old ++ more

-- what was written stands at the end; where memory ran out, what stood there before still begins the list
abbrev pub Adds : List ℕ → List ℕ → Result ℕ AllocError → Written → Type 0
Adds old new (Ok m) w = (new ≡ old ++ w.0) × (m ≡ w.1)
Adds old new (Err e) w = Begins old new

-- the same, one description further up
abbrev pub writers_by : (Slot → List Bool) → Option (Bool × Slot) → List Bool
writers_by above None = []
writers_by above (Some w) = above w.1 ++ w.0 ∷ []
