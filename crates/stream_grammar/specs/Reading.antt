-- Reading a stream from left to right, up to the first fault (Java Object Serialization Specification, 6.4). The nodes so far are passed
-- along; one that is still being read stands there empty, and is written over when it was read.
use Rattle.std.specs.Prelude.{ℕ, zero, suc, ◌+◌, ◌-◌, ◌^◌, Bool, true, false, ◌||◌, ◌&&◌, not, nat_eq, nat_le, nat_lt, List, [], ◌∷◌, ◌++◌, length, take, drop, Option, Some, None, is_some, Result, Ok, Err, slice_get, slice_set, if◌then◌else◌}
use Rattle.std.specs.Int.{Width, w16, w32, w64, byte_len, from_be_bytes, cast_signed}
use Rattle.mod_utf.specs.Decoding.{decoded_units}
use Rattle.class_desc.specs.declared.slot.Slot.{Slot}
use Rattle.class_desc.specs.declared.slot.Slot.TheVariants as slots
use Rattle.class_desc.specs.declared.slot.Item.{Item}
use Rattle.class_desc.specs.declared.slot.Item.TheVariants as items
use Rattle.class_desc.specs.declared.field.TypeCode.{TypeCode}
use Rattle.class_desc.specs.declared.field.TypeCode.TheVariants as codes
use Rattle.class_desc.specs.declared.field.FieldDesc.{FieldDesc}
use Rattle.class_desc.specs.declared.desc.ClassDesc.{ClassDesc}
use Rattle.class_desc.specs.TypeCode.{is_primitive}
use Rattle.class_desc.specs.TypeText.{code_of, element_of}
use Rattle.class_desc.specs.ClassDesc.{has_flag, lacks_flag, is_good_desc}
use Rattle.ser_values.specs.declared.value.Value.{Value}
use Rattle.ser_values.specs.declared.value.Value.TheVariants as values
use Rattle.ser_values.specs.declared.value.Values.{Values}
use Rattle.ser_values.specs.declared.value.Values.TheVariants as kinds
use Rattle.ser_values.specs.declared.value.Part.{Part}
use Rattle.ser_values.specs.declared.node.Node.{Node}
use Rattle.ser_values.specs.declared.node.Node.TheVariants.{Text, Desc, Proxy, Object, Array, Class, Enum}
use Rattle.ser_values.specs.declared.node.SlotPlace.{SlotPlace}
use Rattle.ser_values.specs.declared.node.SlotPlace.TheVariants as places
use Rattle.ser_values.specs.declared.limits.TheConstants.{LEVELS, NODES, PARTS}
use Rattle.ser_values.specs.Node.{has, is_desc, is_text}
use Rattle.ser_values.specs.Shape.{fits_type, is_enum}
use Rattle.stream_grammar.specs.Spelled.{joined}

-- ---- faults

pub data FaultKind : Type 0 where
  bad_magic : FaultKind
  bad_code : FaultKind
  bad_handle : FaultKind
  wrong_handle_kind : FaultKind
  bad_desc : FaultKind
  bad_utf : FaultKind
  negative_length : FaultKind
  reset : FaultKind
  inner_exception : FaultKind
  old_external : FaultKind

-- The bytes end; something is wrong at a position; or there are too many nodes or parts, or too many levels, at one.
pub data Fault : Type 0 where
  short : Fault
  bad : FaultKind → ℕ → Fault
  too_many : ℕ → Fault
  too_deep : ℕ → Fault

infixl 10 ◌>>=◌
abbrev pub ◌>>=◌ : {A B : Type 0} → Result A Fault → (A → Result B Fault) → Result B Fault
(Ok x) >>= f = f x
(Err e) >>= f = Err e

-- ---- bytes, numbers and texts; `end` is the position at which the bytes end

-- what is read, and the bytes after it
abbrev pub Plain : Type 0 → Type 0
Plain A = Result (A × List ℕ) Fault

abbrev pub byte_at : List ℕ → Plain ℕ
byte_at [] = Err short
byte_at (b ∷ bs) = Ok (b, bs)

abbrev pub take_at : ℕ → List ℕ → Plain (List ℕ)
take_at n bs = if nat_lt (length bs) n then Err short else Ok (take n bs, drop n bs)

-- a number with its highest byte first
abbrev pub number_at : Width → List ℕ → Plain ℕ
number_at w bs = take_at (byte_len w) bs >>= λ t. Ok (from_be_bytes w t.0, t.1)

-- a count or a length below a bound, which is read whole before it is judged
unfoldable pub size_at : ℕ → Width → ℕ → List ℕ → Plain ℕ
size_at end w bound bs = number_at w bs >>= λ n. if nat_lt n.0 bound then Ok n else Err (bad negative_length (end - length bs))

abbrev pub units_of : ℕ → Result (List ℕ) ℕ → Result (List ℕ) Fault
units_of start (Ok units) = Ok units
units_of start (Err at) = Err (bad bad_utf (start + at))

-- a text of so many bytes, which are all there before they are judged
unfoldable pub units_at : ℕ → ℕ → List ℕ → Plain (List ℕ)
units_at end n bs = take_at n bs >>= λ t. units_of (end - length bs) (decoded_units t.0) >>= λ units. Ok (units, t.1)

unfoldable pub short_at : ℕ → List ℕ → Plain (List ℕ)
short_at end bs = number_at w16 bs >>= λ n. units_at end n.0 n.1

unfoldable pub long_at : ℕ → List ℕ → Plain (List ℕ)
long_at end bs = size_at end w64 (2 ^ 63) bs >>= λ n. units_at end n.0 n.1

-- ---- steps

-- The nodes so far, and how many parts they have, with those parts of the nodes being read that are counted before they are read, and the
-- references among items that were read.
pub record Progress : Type 0 where
  pub nodes : List Node
  pub parts : ℕ

abbrev pub Step : Type 0 → Type 0
Step A = Progress → List ℕ → Result (A × Progress × List ℕ) Fault

-- how a reference is read in a place, with these descriptions unread
abbrev pub Slots : Type 0
Slots = SlotPlace → List ℕ → Step Slot

-- what changes no nodes
abbrev pub plain : {A : Type 0} → (List ℕ → Plain A) → Step A
plain read now bs = read bs >>= λ x. Ok (x.0, now, x.1)

abbrev pub map_step : {A B : Type 0} → (A → B) → Step A → Step B
map_step f step now bs = step now bs >>= λ x. Ok (f x.0, x.1, x.2)

-- so many, one after the other
unfoldable pub many_at : {A : Type 0} → Step A → ℕ → Step (List A)
many_at step zero now bs = Ok ([], now, bs)
many_at step (suc n) now bs = step now bs >>= λ x. many_at step n x.1 x.2 >>= λ xs. Ok (x.0 ∷ xs.0, xs.1, xs.2)

abbrev pub push : Progress → Node → Progress
push now i = record { nodes = now.nodes ++ i ∷ []; parts = now.parts }

abbrev pub fill : Progress → ℕ → Node → Progress
fill now k i = record { nodes = slice_set now.nodes k i; parts = now.parts }

-- ---- parts

abbrev pub add_parts : ℕ → Progress → Progress
add_parts n now = record { nodes = now.nodes; parts = now.parts + n }

-- Goes on where so many further parts have room.
abbrev pub counting : {A : Type 0} → ℕ → ℕ → Progress → (Progress → Result A Fault) → Result A Fault
counting more at now f = if nat_lt PARTS (now.parts + more) then Err (too_many at) else f (add_parts more now)

-- ---- annotations

-- One block or reference after the other, as they stand, up to the end: 78 where `within` an annotation, else that of the bytes.
-- Each takes a byte at least. A reference is a part, which is counted once it was read: `too_many` has its position.
unfoldable pub blocks_at : ℕ → Step Slot → Bool → ℕ → Step (List Item)
blocks_at end inner within zero now bs = Err short
blocks_at end inner within (suc most) now [] = if within then Err short else Ok ([], now, [])
blocks_at end inner within (suc most) now (c ∷ bs) =
    if within && nat_eq c 0x78 then Ok ([], now, bs) else
    (if nat_eq c 0x77 then (byte_at bs >>= λ n. take_at n.0 n.1 >>= λ p. blocks_at end inner within most now p.1 >>= λ is. Ok (items.Bytes p.0 ∷ is.0, is.1, is.2)) else
    (if nat_eq c 0x7A then (size_at end w32 (2 ^ 31) bs >>= λ n. take_at n.0 n.1 >>= λ p. blocks_at end inner within most now p.1 >>= λ is. Ok (items.Bytes p.0 ∷ is.0, is.1, is.2)) else
    (inner now (c ∷ bs) >>= λ s. counting 1 (end - length (c ∷ bs)) s.1 (λ next. blocks_at end inner within most next s.2 >>= λ is. Ok (items.Ref s.0 ∷ is.0, is.1, is.2)))))

unfoldable pub items_at : ℕ → Step Slot → Bool → Step (List Item)
items_at end inner within now bs = map_step joined (blocks_at end inner within (suc (length bs))) now bs

-- ---- fields, values, elements

abbrev pub field : TypeCode → List ℕ → Slot → FieldDesc
field code name text = record { code = code; name = name; type_text = text }

-- The type text is judged where it ends, the code where it stands; `at` is the description's position.
unfoldable pub field_of : ℕ → ℕ → Step Slot → Option TypeCode → Step FieldDesc
field_of end at text None now bs = Err (bad bad_desc at)
field_of end at text (Some code) now bs = short_at end bs >>= λ name.
    if is_primitive code then Ok (field code name.0 slots.Null, now, name.1)
    else (text now name.1 >>= λ t. if fits_type t.1.nodes code t.0 then Ok (field code name.0 t.0, t.1, t.2) else Err (bad bad_desc at))

unfoldable pub field_at : ℕ → ℕ → Step Slot → Step FieldDesc
field_at end at text now bs = byte_at bs >>= λ c. field_of end at text (code_of c.0) now c.1

abbrev pub is_true : ℕ → Bool
is_true b = not (nat_eq b 0)

unfoldable pub value_at : Step Slot → TypeCode → Step Value
value_at inner codes.Byte = map_step values.Byte (plain byte_at)
value_at inner codes.Char = map_step values.Char (plain (number_at w16))
value_at inner codes.Double = map_step values.Double (plain (number_at w64))
value_at inner codes.Float = map_step values.Float (plain (number_at w32))
value_at inner codes.Int = map_step (λ n. values.Int (cast_signed w32 n)) (plain (number_at w32))
value_at inner codes.Long = map_step (λ n. values.Long (cast_signed w64 n)) (plain (number_at w64))
value_at inner codes.Short = map_step (λ n. values.Short (cast_signed w16 n)) (plain (number_at w16))
value_at inner codes.Boolean = map_step (λ b. values.Boolean (is_true b)) (plain byte_at)
value_at inner codes.Array = map_step values.Ref inner
value_at inner codes.Object = map_step values.Ref inner

unfoldable pub values_at : Step Slot → List FieldDesc → Step (List Value)
values_at inner [] now bs = Ok ([], now, bs)
values_at inner (f ∷ fs) now bs = value_at inner f.code now bs >>= λ v. values_at inner fs v.1 v.2 >>= λ vs. Ok (v.0 ∷ vs.0, vs.1, vs.2)

unfoldable pub elements_at : Step Slot → TypeCode → ℕ → Step Values
elements_at inner codes.Byte n = map_step kinds.Bytes (many_at (plain byte_at) n)
elements_at inner codes.Char n = map_step kinds.Chars (many_at (plain (number_at w16)) n)
elements_at inner codes.Double n = map_step kinds.Doubles (many_at (plain (number_at w64)) n)
elements_at inner codes.Float n = map_step kinds.Floats (many_at (plain (number_at w32)) n)
elements_at inner codes.Int n = map_step kinds.Ints (many_at (map_step (λ k. cast_signed w32 k) (plain (number_at w32))) n)
elements_at inner codes.Long n = map_step kinds.Longs (many_at (map_step (λ k. cast_signed w64 k) (plain (number_at w64))) n)
elements_at inner codes.Short n = map_step kinds.Shorts (many_at (map_step (λ k. cast_signed w16 k) (plain (number_at w16))) n)
elements_at inner codes.Boolean n = map_step kinds.Bools (many_at (map_step is_true (plain byte_at)) n)
elements_at inner codes.Array n = map_step kinds.Refs (many_at inner n)
elements_at inner codes.Object n = map_step kinds.Refs (many_at inner n)

-- ---- objects

-- of a class: its fields, and whether its objects have a note
abbrev pub Row : Type 0
Row = List FieldDesc × Bool

-- the classes of a chain, the highest first, and whether each is serializable or a proxy
abbrev pub chain_above : (Slot → List Row × Bool) → Option Node → List Row × Bool
chain_above above (Some (Desc d)) = ((above d.parent).0 ++ (d.fields, has_flag d.flags 1) ∷ [], (above d.parent).1 && has_flag d.flags 2)
chain_above above (Some (Proxy p)) = ((above p.parent).0 ++ ([], false) ∷ [], (above p.parent).1)
chain_above above _ = ([], false)

-- of at most so many classes
unfoldable pub chain_of : ℕ → List Node → Slot → List Row × Bool
chain_of most nodes slots.Null = ([], true)
chain_of zero nodes (slots.Node k) = ([], false)
chain_of (suc most) nodes (slots.Node k) = chain_above (chain_of most nodes) (slice_get nodes k)

-- the parts that an object of the class has: an externalizable one has a note alone
abbrev pub rows_of : Option Node → List Row → List Row
rows_of (Some (Desc d)) rows = if has_flag d.flags 4 then ([], true) ∷ [] else rows
rows_of i rows = rows

-- How many parts an object of these rows has beside those of its notes: one for each, and one for each value.
unfoldable pub sizes_of : List Row → ℕ
sizes_of [] = 0
sizes_of (r ∷ rs) = suc (length r.0 + sizes_of rs)

-- why the class has no objects
abbrev pub class_fault : Option Node → Bool → Option FaultKind
class_fault (Some (Desc d)) serial =
    if has_flag d.flags 4 && not (has_flag d.flags 8) then Some old_external else
    (if lacks_flag d.flags 16 && (not (is_some (element_of d.name)) && (has_flag d.flags 4 || serial)) then None else Some bad_desc)
class_fault (Some (Proxy p)) serial = if serial then None else Some bad_desc
class_fault i serial = Some bad_desc

unfoldable pub note_at : ℕ → Step Slot → Bool → Step (List Item)
note_at end inner true now bs = items_at end inner true now bs
note_at end inner false now bs = Ok ([], now, bs)

abbrev pub part : List Value → List Item → Part
part vs is = record { values = vs; note = is }

unfoldable pub parts_at : ℕ → Step Slot → List Row → Step (List Part)
parts_at end inner [] now bs = Ok ([], now, bs)
parts_at end inner (r ∷ rs) now bs = values_at inner r.0 now bs >>= λ vs. note_at end inner r.1 vs.1 vs.2 >>= λ is. parts_at end inner rs is.1 is.2 >>= λ ps. Ok (part vs.0 is.0 ∷ ps.0, ps.1, ps.2)

-- ---- each construct; `at` is the position of its code

abbrev pub unless : {A : Type 0} → Option FaultKind → ℕ → Result A Fault → Result A Fault
unless None at r = r
unless (Some kind) at r = Err (bad kind at)

-- where another node has room
abbrev pub roomy : {A : Type 0} → Progress → ℕ → Result A Fault → Result A Fault
roomy now at r = if nat_lt (length now.nodes) NODES then r else Err (too_many at)

abbrev pub blank : ClassDesc
blank = record { name = []; suid = cast_signed w64 0; flags = 0; fields = []; note = []; parent = slots.Null }

unfoldable pub text_at : (List ℕ → Plain (List ℕ)) → Step Slot
text_at read now bs = read bs >>= λ t. Ok (slots.Node (length now.nodes), push now (Text t.0), t.1)

-- what stands after a description's handle, but for its flags
unfoldable pub desc_after : ℕ → ℕ → Slots → List ℕ → List ℕ → ℕ → ℕ → Step ClassDesc
desc_after end at inner unread name suid flags now bs =
    size_at end w16 32768 bs >>= λ n.
    counting n.0 at now (λ next.
    many_at (field_at end at (inner places.Text unread)) n.0 next n.1 >>= λ fs.
    if is_good_desc (record { name = name; suid = cast_signed w64 suid; flags = flags; fields = fs.0; note = []; parent = slots.Null }) then
    (items_at end (inner places.Reference unread) true fs.1 fs.2 >>= λ is.
    inner places.Parent unread is.1 is.2 >>= λ p.
    Ok (record { name = name; suid = cast_signed w64 suid; flags = flags; fields = fs.0; note = is.0; parent = p.0 }, p.1, p.2)) else Err (bad bad_desc at))

unfoldable pub desc_at : ℕ → ℕ → Slots → List ℕ → Step Slot
desc_at end at inner unread now bs =
    short_at end bs >>= λ name.
    number_at w64 name.1 >>= λ suid.
    byte_at suid.1 >>= λ flags.
    desc_after end at inner (unread ++ length now.nodes ∷ []) name.0 suid.0 flags.0 (push now (Desc blank)) flags.1 >>= λ d.
    Ok (slots.Node (length now.nodes), fill d.1 (length now.nodes) (Desc d.0), d.2)

unfoldable pub proxy_at : ℕ → ℕ → Slots → List ℕ → Step Slot
proxy_at end at inner unread now bs =
    size_at end w32 (2 ^ 31) bs >>= λ n.
    counting n.0 at (push now (Desc blank)) (λ next.
    many_at (plain (short_at end)) n.0 next n.1 >>= λ names.
    items_at end (inner places.Reference (unread ++ length now.nodes ∷ [])) true names.1 names.2 >>= λ is.
    inner places.Parent (unread ++ length now.nodes ∷ []) is.1 is.2 >>= λ p.
    Ok (slots.Node (length now.nodes), fill p.1 (length now.nodes) (Proxy (record { names = names.0; note = is.0; parent = p.0 })), p.2))

abbrev pub on_class : ℕ → (ℕ → Step Slot) → Slot × Progress × List ℕ → Result (Slot × Progress × List ℕ) Fault
on_class at f (slots.Null, now, bs) = Err (bad bad_code at)
on_class at f (slots.Node k, now, bs) = roomy now at (f k now bs)

-- a construct that begins with its class
unfoldable pub with_class : Slots → List ℕ → ℕ → (ℕ → Step Slot) → Step Slot
with_class inner unread at f now bs = inner places.Class unread now bs >>= on_class at f

-- the parts of an object, which has its handle
unfoldable pub object_after : ℕ → Step Slot → ℕ → List Row → Step Slot
object_after end inner class rows now bs =
    parts_at end inner rows (record { nodes = now.nodes ++ Object class [] ∷ []; parts = now.parts + sizes_of rows }) bs >>= λ ps.
    Ok (slots.Node (length now.nodes), fill ps.1 (length now.nodes) (Object class ps.0), ps.2)

unfoldable pub object_at : ℕ → ℕ → Step Slot → ℕ → Step Slot
object_at end at inner class now bs =
    if nat_lt PARTS (now.parts + sizes_of (rows_of (slice_get now.nodes class) (chain_of PARTS now.nodes (slots.Node class)).0)) then Err (too_many at) else
    unless (class_fault (slice_get now.nodes class) (chain_of PARTS now.nodes (slots.Node class)).1) at
    (object_after end inner class (rows_of (slice_get now.nodes class) (chain_of PARTS now.nodes (slots.Node class)).0) now bs)

-- the type of an array class's elements
abbrev pub type_in : Option Node → Option TypeCode
type_in (Some (Desc d)) = element_of d.name
type_in i = None

-- How many parts so many elements of a type are: references alone are parts.
abbrev pub refs_among : TypeCode → ℕ → ℕ
refs_among code n = if is_primitive code then 0 else n

unfoldable pub array_of : ℕ → ℕ → Step Slot → ℕ → Option TypeCode → Step Slot
array_of end at inner class None now bs = Err (bad bad_desc at)
array_of end at inner class (Some code) now bs =
    size_at end w32 (2 ^ 31) bs >>= λ n.
    counting (refs_among code n.0) at (push now (Array class (kinds.Bytes []))) (λ next.
    elements_at inner code n.0 next n.1 >>= λ vs.
    Ok (slots.Node (length now.nodes), fill vs.1 (length now.nodes) (Array class vs.0), vs.2))

unfoldable pub array_at : ℕ → ℕ → Step Slot → ℕ → Step Slot
array_at end at inner class now bs = array_of end at inner class (type_in (slice_get now.nodes class)) now bs

unfoldable pub class_at : ℕ → Step Slot
class_at class now bs = Ok (slots.Node (length now.nodes), push now (Class class), bs)

-- a constant's name is a text
abbrev pub named : ℕ → ℕ → Slot × Progress × List ℕ → Result (Slot × Progress × List ℕ) Fault
named class n (slots.Null, now, bs) = Err short
named class n (slots.Node t, now, bs) = Ok (slots.Node n, fill now n (Enum class t), bs)

unfoldable pub enum_at : ℕ → Step Slot → ℕ → Step Slot
enum_at at text class now bs = if is_enum (slice_get now.nodes class) then (text (push now (Enum class 0)) bs >>= named class (length now.nodes)) else Err (bad bad_desc at)

-- ---- codes

abbrev pub gives_handle : ℕ → Bool
gives_handle code = nat_le 0x72 code && nat_le code 0x76 || (nat_eq code 0x7C || (nat_eq code 0x7D || nat_eq code 0x7E))

abbrev pub admits_code : SlotPlace → ℕ → Bool
admits_code places.Reference code = gives_handle code
admits_code places.Class code = nat_eq code 0x72 || nat_eq code 0x7D
admits_code places.Parent code = nat_eq code 0x72 || nat_eq code 0x7D
admits_code places.Text code = nat_eq code 0x74 || nat_eq code 0x7C

abbrev pub code_fault : ℕ → FaultKind
code_fault code = if nat_eq code 0x79 then reset else (if nat_eq code 0x7B then inner_exception else bad_code)

unfoldable pub fresh_at : ℕ → ℕ → Slots → List ℕ → ℕ → Step Slot
fresh_at end at inner unread code now bs =
    if nat_eq code 0x72 then desc_at end at inner unread now bs else
    (if nat_eq code 0x73 then with_class inner unread at (object_at end at (inner places.Reference unread)) now bs else
    (if nat_eq code 0x74 then text_at (short_at end) now bs else
    (if nat_eq code 0x75 then with_class inner unread at (array_at end at (inner places.Reference unread)) now bs else
    (if nat_eq code 0x76 then with_class inner unread at class_at now bs else
    (if nat_eq code 0x7C then text_at (long_at end) now bs else
    (if nat_eq code 0x7D then proxy_at end at inner unread now bs else
    (if nat_eq code 0x7E then with_class inner unread at (enum_at at (inner places.Text unread)) now bs else Err (bad bad_code at))))))))

abbrev pub null_at : SlotPlace → ℕ → Step Slot
null_at places.Reference at now bs = Ok (slots.Null, now, bs)
null_at places.Parent at now bs = Ok (slots.Null, now, bs)
null_at p at now bs = Err (bad bad_code at)

-- why a node that has a handle is not taken
abbrev pub handle_fault : SlotPlace → Bool → Option Node → Option FaultKind
handle_fault p unread None = Some bad_handle
handle_fault places.Reference unread (Some i) = None
handle_fault places.Text unread (Some i) = if is_text i then None else Some wrong_handle_kind
handle_fault p unread (Some i) = if unread then Some bad_desc else (if is_desc i then None else Some wrong_handle_kind)

unfoldable pub handle_at : SlotPlace → List ℕ → ℕ → Step Slot
handle_at p unread at now bs =
    number_at w32 bs >>= λ h.
    if nat_lt h.0 0x7E0000 then Err (bad bad_handle at)
    else unless (handle_fault p (has unread (h.0 - 0x7E0000)) (slice_get now.nodes (h.0 - 0x7E0000))) at (Ok (slots.Node (h.0 - 0x7E0000), now, h.1))

-- where so many levels may still begin
abbrev pub deep : {A : Type 0} → ℕ → ℕ → Result A Fault → Result A Fault
deep zero at r = Err (too_deep at)
deep (suc left) at r = r

unfoldable pub coded : ℕ → ℕ → Slots → SlotPlace → List ℕ → ℕ → ℕ → Step Slot
coded end left inner p unread at code now bs =
    if nat_eq code 0x70 then null_at p at now bs else
    (if nat_eq code 0x71 then handle_at p unread at now bs else
    (if admits_code p code then deep left at (roomy now at (fresh_at end at inner unread code now bs)) else Err (bad (code_fault code) at)))

abbrev pub no_slots : Slots
no_slots p unread now bs = Err short

-- a reference, at most so many levels deep
unfoldable pub slot_at : ℕ → ℕ → Slots
slot_at end zero p unread now bs = byte_at bs >>= λ c. coded end zero no_slots p unread (end - length bs) c.0 now c.1
slot_at end (suc left) p unread now bs = byte_at bs >>= λ c. coded end (suc left) (slot_at end left) p unread (end - length bs) c.0 now c.1

-- ---- a whole stream

unfoldable pub magic_at : ℕ → List ℕ → List ℕ → Result (List ℕ) Fault
magic_at end [] bs = Ok bs
magic_at end (w ∷ ws) bs = byte_at bs >>= λ b. if nat_eq b.0 w then magic_at end ws b.1 else Err (bad bad_magic (end - length bs))

-- The nodes and items of a stream up to the end of the bytes, or the first fault.
unfoldable pub stream_of : List ℕ → Result (List Node × List Item) Fault
stream_of bytes =
    magic_at (length bytes) (0xAC ∷ 0xED ∷ 0x00 ∷ 0x05 ∷ []) bytes >>= λ bs.
    items_at (length bytes) (slot_at (length bytes) LEVELS places.Reference []) false (record { nodes = []; parts = 0 }) bs >>= λ x.
    Ok (x.1.nodes, x.0)
