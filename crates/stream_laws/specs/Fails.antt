-- Which fault bytes show (Java Object Serialization Specification, 6.4), case by case beside the grammar: a construct is refused for itself, or what stands in it
-- before one of its parts was read and that part is refused where it begins. The bytes from a position on say which position it is: they end at `end`.
use Rattle.std.specs.Prelude.{◌≡◌, ◌≢◌, ◌⊎◌, ◌<◌, ◌≤◌, ◌+◌, ◌-◌, ◌^◌, ℕ, zero, suc, Bool, true, false, List, [], ◌∷◌, ◌++◌, length, Some, None, slice_get}
use Rattle.std.specs.Int.{Width, w16, w32, w64}
use Rattle.mod_utf.specs.Decoding.{IsBadAt}
use Rattle.class_desc.specs.declared.slot.Slot.{Slot}
use Rattle.class_desc.specs.declared.slot.Slot.TheVariants as slots
use Rattle.class_desc.specs.declared.slot.Item.{Item}
use Rattle.class_desc.specs.declared.field.TypeCode.{TypeCode}
use Rattle.class_desc.specs.declared.field.FieldDesc.{FieldDesc}
use Rattle.class_desc.specs.TypeCode.{is_primitive}
use Rattle.class_desc.specs.TypeText.{code_of}
use Rattle.class_desc.specs.ClassDesc.{is_good_desc}
use Rattle.ser_values.specs.declared.value.Values.TheVariants as kinds
use Rattle.ser_values.specs.declared.value.Value.{Value}
use Rattle.ser_values.specs.declared.value.Part.{Part}
use Rattle.ser_values.specs.declared.node.Node.{Node}
use Rattle.ser_values.specs.declared.node.Node.TheVariants.{Desc, Array, Enum}
use Rattle.ser_values.specs.declared.node.SlotPlace.{SlotPlace}
use Rattle.ser_values.specs.declared.node.SlotPlace.TheVariants as places
use Rattle.ser_values.specs.declared.limits.TheConstants.{NODES, PARTS}
use Rattle.ser_values.specs.Node.{has, admits, admits_null}
use Rattle.ser_values.specs.Shape.{fits_type, is_enum}
use Rattle.stream_grammar.specs.Reading.{FaultKind, bad_code, bad_handle, wrong_handle_kind, bad_desc, bad_utf, negative_length, reset, inner_exception, Fault, bad, too_many, too_deep, Progress, push, add_parts, Row, chain_of, sizes_of, refs_among, class_fault, type_in, admits_code, blank}
use Rattle.stream_grammar.specs.Faults.{DescHead}
use Rattle.stream_laws.specs.Reads.{HasByte, HasNumber, HasSize, HasText, References, Plainly, Many, HasValues, HasField, HasDescHead, desc_of, HasFields, HasInterfaces, BeginsReference, Follow, HasNote, HasParts, rows_in, with_object, gives_none, Reads}

-- ---- what comes next

-- A reference in a place, with these descriptions unread, and what was read of the nodes; a length or a count of so many bits, which is to be below a bound;
-- the bytes of a text, so many; a reference that is a part too many; or none of these, for the construct is refused by this fault.
pub data Next : Type 0 where
  a_reference : SlotPlace → List ℕ → Progress → Next
  a_size : Width → ℕ → Next
  a_text : ℕ → Next
  a_part : Next
  a_refusal : Fault → Next

-- what is said of what comes next, and of the bytes from there on
abbrev pub Says : Type 1
Says = Next → List ℕ → Type 0

-- ---- texts and annotations

-- A text with a length of 16 bits stands here.
abbrev pub InText : Says → List ℕ → Type 0
InText P here = (n : ℕ × List ℕ) × HasNumber w16 here n × P (a_text n.0) n.1

-- A text with a length of 64 bits.
abbrev pub InLongText : Says → List ℕ → Type 0
InLongText P here = P (a_size w64 (2 ^ 63)) here ⊎ ((n : ℕ × List ℕ) × HasSize w64 (2 ^ 63) here n × P (a_text n.0) n.1)

-- Blocks and references stand here, up to the end of an annotation or of the bytes. Behind so many of them, at most one a byte, comes a reference; or one that is read, and is a
-- part too many; or the length of a block.
pub record InItems (within : Bool) (R : References) (unread : List ℕ) (P : Says) (now : Progress) (here : List ℕ) : Type 0 where
  pub before : List Item
  pub later : Progress
  pub there : List ℕ
  pub few : length before ≤ length here
  pub follow : Follow within (R places.Reference unread) before now here later there
  pub next : (BeginsReference within there × P (a_reference places.Reference unread later) there)
      ⊎ ((BeginsReference within there × (x : Slot × Progress × List ℕ) × R places.Reference unread later there x × (PARTS < x.1.parts + 1) × P a_part there)
      ⊎ ((rest : List ℕ) × (there ≡ 0x7A ∷ rest) × P (a_size w32 (2 ^ 31)) rest))

abbrev pub InNote : References → List ℕ → Says → Progress → List ℕ → Type 0
InNote R unread P now here = InItems true R unread P now here

-- ---- descriptions

-- The next field of a description: its letter, which is that of a type; its name; and a reference field's type text, which is one of its type. `at` is the position of
-- the description's code.
pub data InField (at : ℕ) (R : References) (unread : List ℕ) (P : Says) (now : Progress) (here : List ℕ) : Type 0 where
  no_letter : (c : ℕ) (rest : List ℕ) → here ≡ c ∷ rest → code_of c ≡ None → P (a_refusal (bad bad_desc at)) here → InField at R unread P now here
  in_name : (c : ℕ) (rest : List ℕ) (code : TypeCode) → here ≡ c ∷ rest → code_of c ≡ Some code → InText P rest → InField at R unread P now here
  at_type : (c : ℕ) (rest : List ℕ) (code : TypeCode) (name : List ℕ × List ℕ) → here ≡ c ∷ rest → code_of c ≡ Some code → HasText rest name → is_primitive code ≡ false
      → P (a_reference places.Text unread now) name.1 → InField at R unread P now here
  other_type : (c : ℕ) (rest : List ℕ) (code : TypeCode) (name : List ℕ × List ℕ) (t : Slot × Progress × List ℕ) → here ≡ c ∷ rest → code_of c ≡ Some code → HasText rest name → is_primitive code ≡ false
      → R places.Text unread now name.1 t → fits_type t.1.nodes code t.0 ≡ false → P (a_refusal (bad bad_desc at)) here → InField at R unread P now here

-- A description of a class stands here, behind its code: its name, its serialVersionUID and flags, its fields with their number, for which there is room, its annotation, and its
-- superclass.
pub data InDesc (at : ℕ) (R : References) (unread : List ℕ) (P : Says) (first : Progress) (here : List ℕ) : Type 0 where
  in_desc_name : InText P here → InDesc at R unread P first here
  at_count : (name : List ℕ × List ℕ) (suid flags : ℕ × List ℕ) → HasText here name → HasNumber w64 name.1 suid → HasByte suid.1 flags → P (a_size w16 32768) flags.1 → InDesc at R unread P first here
  too_many_fields : (head : DescHead) → HasDescHead here head → PARTS < first.parts + head.count → P (a_refusal (too_many at)) here → InDesc at R unread P first here
  in_field : (head : DescHead) (done : ℕ) (fields : List FieldDesc) (later : Progress) (there : List ℕ) → HasDescHead here head → first.parts + head.count ≤ PARTS → done < head.count
      → Many (HasField R unread) done (add_parts head.count first) head.rest (fields, later, there) → InField at R unread P later there → InDesc at R unread P first here
  breaks_rule : (d : HasFields R unread first here) → is_good_desc (desc_of d.head d.fields) ≡ false → P (a_refusal (bad bad_desc at)) here → InDesc at R unread P first here
  in_note : (d : HasFields R unread first here) → is_good_desc (desc_of d.head d.fields) ≡ true → InNote R unread P d.later d.there → InDesc at R unread P first here
  at_parent : (d : HasFields R unread first here) (note : List Item × Progress × List ℕ) → is_good_desc (desc_of d.head d.fields) ≡ true → HasNote (R places.Reference unread) d.later d.there note
      → P (a_reference places.Parent unread note.1) note.2 → InDesc at R unread P first here

-- A description of a proxy's class: its interfaces with their number, for which there is room, its annotation, and its superclass.
pub data InProxy (at : ℕ) (R : References) (unread : List ℕ) (P : Says) (first : Progress) (here : List ℕ) : Type 0 where
  at_names : P (a_size w32 (2 ^ 31)) here → InProxy at R unread P first here
  too_many_names : (count : ℕ × List ℕ) → HasSize w32 (2 ^ 31) here count → PARTS < first.parts + count.0 → P (a_refusal (too_many at)) here → InProxy at R unread P first here
  in_interface : (count : ℕ × List ℕ) (done : ℕ) (names : List (List ℕ)) (later : Progress) (there : List ℕ) → HasSize w32 (2 ^ 31) here count → first.parts + count.0 ≤ PARTS → done < count.0
      → Many (Plainly HasText) done (add_parts count.0 first) count.1 (names, later, there) → InText P there → InProxy at R unread P first here
  in_proxy_note : (d : HasInterfaces first here) → InNote R unread P d.later d.there → InProxy at R unread P first here
  at_proxy_parent : (d : HasInterfaces first here) (note : List Item × Progress × List ℕ) → HasNote (R places.Reference unread) d.later d.there note
      → P (a_reference places.Parent unread note.1) note.2 → InProxy at R unread P first here

-- ---- objects, arrays, constants of enums

-- The parts of an object, one class of its chain after the other: so many were read, and of the next one some values, up to one that is a reference; or all, up to its annotation.
pub record InParts (R : References) (unread : List ℕ) (P : Says) (rows : List Row) (now : Progress) (here : List ℕ) : Type 0 where
  pub before : List Row
  pub row : Row
  pub behind : List Row
  pub are : rows ≡ before ++ row ∷ behind
  pub parts : List Part
  pub later : Progress
  pub there : List ℕ
  pub read : HasParts (R places.Reference unread) before now here (parts, later, there)
  pub next : ((done : List FieldDesc) × (field : FieldDesc) × (fields : List FieldDesc) × (row.0 ≡ done ++ field ∷ fields) × (is_primitive field.code ≡ false)
      × (x : List Value × Progress × List ℕ) × HasValues (R places.Reference unread) done later there x × P (a_reference places.Reference unread x.1) x.2)
      ⊎ ((row.1 ≡ true) × (x : List Value × Progress × List ℕ) × HasValues (R places.Reference unread) row.0 later there x × InNote R unread P x.1 x.2)

-- An object of the class stands here, behind it: there are not too many parts, the class has objects, and the parts.
pub data InObject (at : ℕ) (R : References) (unread : List ℕ) (P : Says) (class : ℕ) (now : Progress) (here : List ℕ) : Type 0 where
  too_many_parts : PARTS < now.parts + sizes_of (rows_in now class) → P (a_refusal (too_many at)) here → InObject at R unread P class now here
  no_objects : (kind : FaultKind) → now.parts + sizes_of (rows_in now class) ≤ PARTS → class_fault (slice_get now.nodes class) (chain_of PARTS now.nodes (slots.Node class)).1 ≡ Some kind → P (a_refusal (bad kind at)) here
      → InObject at R unread P class now here
  in_parts : now.parts + sizes_of (rows_in now class) ≤ PARTS → class_fault (slice_get now.nodes class) (chain_of PARTS now.nodes (slots.Node class)).1 ≡ None
      → InParts R unread P (rows_in now class) (with_object now class) here → InObject at R unread P class now here

-- An array of the class: the class is one of arrays, the number of elements, and elements that are references, for which there is room.
pub data InArray (at : ℕ) (R : References) (unread : List ℕ) (P : Says) (class : ℕ) (now : Progress) (here : List ℕ) : Type 0 where
  no_array : type_in (slice_get now.nodes class) ≡ None → P (a_refusal (bad bad_desc at)) here → InArray at R unread P class now here
  at_size : (code : TypeCode) → type_in (slice_get now.nodes class) ≡ Some code → P (a_size w32 (2 ^ 31)) here → InArray at R unread P class now here
  too_many_elements : (code : TypeCode) (count : ℕ × List ℕ) → type_in (slice_get now.nodes class) ≡ Some code → HasSize w32 (2 ^ 31) here count → PARTS < now.parts + refs_among code count.0 → P (a_refusal (too_many at)) here → InArray at R unread P class now here
  at_element : (code : TypeCode) (count : ℕ × List ℕ) (done : ℕ) (x : List Slot × Progress × List ℕ) → type_in (slice_get now.nodes class) ≡ Some code → is_primitive code ≡ false → HasSize w32 (2 ^ 31) here count
      → now.parts + refs_among code count.0 ≤ PARTS → done < count.0
      → Many (R places.Reference unread) done (add_parts (refs_among code count.0) (push now (Array class (kinds.Bytes [])))) count.1 x → P (a_reference places.Reference unread x.1) x.2 → InArray at R unread P class now here

-- A constant of an enum: the class is one of enums, and the constant's name.
pub data InEnum (at : ℕ) (unread : List ℕ) (P : Says) (class : ℕ) (now : Progress) (here : List ℕ) : Type 0 where
  no_enum : is_enum (slice_get now.nodes class) ≡ false → P (a_refusal (bad bad_desc at)) here → InEnum at unread P class now here
  at_constant : is_enum (slice_get now.nodes class) ≡ true → P (a_reference places.Text unread (push now (Enum class 0))) here → InEnum at unread P class now here

-- Behind the class of a construct: there is room for its own node, and what stands in it.
pub data InClassed (at : ℕ) (R : References) (unread : List ℕ) (P : Says) (code class : ℕ) (now : Progress) (here : List ℕ) : Type 0 where
  full : NODES ≤ length now.nodes → P (a_refusal (too_many at)) here → InClassed at R unread P code class now here
  in_object : code ≡ 0x73 → length now.nodes < NODES → InObject at R unread P class now here → InClassed at R unread P code class now here
  in_array : code ≡ 0x75 → length now.nodes < NODES → InArray at R unread P class now here → InClassed at R unread P code class now here
  in_enum : code ≡ 0x7E → length now.nodes < NODES → InEnum at unread P class now here → InClassed at R unread P code class now here

-- ---- constructs

-- A construct begins with its class: an object, an array, a class, a constant of an enum.
abbrev pub BeginsWithClass : ℕ → Type 0
BeginsWithClass code = (code ≡ 0x73) ⊎ ((code ≡ 0x75) ⊎ ((code ≡ 0x76) ⊎ (code ≡ 0x7E)))

-- A construct with this code stands before these bytes: what comes next in it, once what is before it was read.
pub data InConstruct (at : ℕ) (R : References) (unread : List ℕ) (P : Says) (code : ℕ) (now : Progress) (here : List ℕ) : Type 0 where
  in_text : code ≡ 0x74 → InText P here → InConstruct at R unread P code now here
  in_long_text : code ≡ 0x7C → InLongText P here → InConstruct at R unread P code now here
  in_desc : code ≡ 0x72 → InDesc at R (unread ++ length now.nodes ∷ []) P (push now (Desc blank)) here → InConstruct at R unread P code now here
  in_proxy : code ≡ 0x7D → InProxy at R (unread ++ length now.nodes ∷ []) P (push now (Desc blank)) here → InConstruct at R unread P code now here
  at_class : BeginsWithClass code → P (a_reference places.Class unread now) here → InConstruct at R unread P code now here
  behind_class : (class : ℕ) (later : Progress) (there : List ℕ) → BeginsWithClass code → R places.Class unread now here (slots.Node class, later, there)
      → InClassed at R unread P code class later there → InConstruct at R unread P code now here

-- ---- faults

-- a place for a description
abbrev pub IsForDesc : SlotPlace → Type 0
IsForDesc p = (p ≡ places.Class) ⊎ (p ≡ places.Parent)

-- Why a reference with this code is refused for itself, where so many levels may still begin: null, where the place takes none; the handle of no node so far, of a node that the place does not
-- take, or of a description that is unread; a reset, or an exception in the stream; a code that the place does not take; a level too many; a node too many.
pub data RefusesCode (left at : ℕ) (p : SlotPlace) (unread : List ℕ) (now : Progress) (code : ℕ) (here : List ℕ) : Fault → Type 0 where
  no_null : code ≡ 0x70 → admits_null p ≡ false → RefusesCode left at p unread now code here (bad bad_code at)
  low_handle : (h : ℕ × List ℕ) → code ≡ 0x71 → HasNumber w32 here h → h.0 < 0x7E0000 → RefusesCode left at p unread now code here (bad bad_handle at)
  no_handle : (h : ℕ × List ℕ) → code ≡ 0x71 → HasNumber w32 here h → 0x7E0000 ≤ h.0 → slice_get now.nodes (h.0 - 0x7E0000) ≡ None → RefusesCode left at p unread now code here (bad bad_handle at)
  wrong_kind : (h : ℕ × List ℕ) (node : Node) → code ≡ 0x71 → HasNumber w32 here h → 0x7E0000 ≤ h.0 → slice_get now.nodes (h.0 - 0x7E0000) ≡ Some node → admits p node ≡ false → (IsForDesc p → has unread (h.0 - 0x7E0000) ≡ false)
      → RefusesCode left at p unread now code here (bad wrong_handle_kind at)
  is_unread : (h : ℕ × List ℕ) (node : Node) → code ≡ 0x71 → HasNumber w32 here h → 0x7E0000 ≤ h.0 → slice_get now.nodes (h.0 - 0x7E0000) ≡ Some node → IsForDesc p → has unread (h.0 - 0x7E0000) ≡ true
      → RefusesCode left at p unread now code here (bad bad_desc at)
  a_reset : code ≡ 0x79 → RefusesCode left at p unread now code here (bad reset at)
  an_exception : code ≡ 0x7B → RefusesCode left at p unread now code here (bad inner_exception at)
  no_code : code ≢ 0x70 → code ≢ 0x71 → code ≢ 0x79 → code ≢ 0x7B → admits_code p code ≡ false → RefusesCode left at p unread now code here (bad bad_code at)
  no_level : left ≡ 0 → admits_code p code ≡ true → RefusesCode left at p unread now code here (too_deep at)
  no_room : 0 < left → admits_code p code ≡ true → NODES ≤ length now.nodes → RefusesCode left at p unread now code here (too_many at)

-- What comes next is refused by this fault: a reference, as `Inner` says; a length or a count that is not below its bound, at its first byte; a text whose bytes are none, at the first byte of the
-- spelling that is no character's; a part too many, at its code; or the construct.
abbrev pub FailsNext : ℕ → Fault → (SlotPlace → List ℕ → Progress → List ℕ → Type 0) → Says
FailsNext end fault Inner (a_reference p unread now) here = Inner p unread now here
FailsNext end fault Inner (a_size w bound) here = (n : ℕ × List ℕ) × HasNumber w here n × (bound ≤ n.0) × (fault ≡ bad negative_length (end - length here))
FailsNext end fault Inner (a_text n) here = (t : List ℕ × List ℕ) × (here ≡ t.0 ++ t.1) × (length t.0 ≡ n) × (offset : ℕ) × IsBadAt t.0 offset × (fault ≡ bad bad_utf (end - length here + offset))
FailsNext end fault Inner a_part here = fault ≡ too_many (end - length here)
FailsNext end fault Inner (a_refusal f) here = fault ≡ f

-- A reference that begins here is refused: by its code; or by what stands in the construct that the code begins. `R` says what bytes give one level down.
pub record FailsHere (end : ℕ) (fault : Fault) (Inner : SlotPlace → List ℕ → Progress → List ℕ → Type 0) (R : References) (left : ℕ) (p : SlotPlace) (unread : List ℕ) (now : Progress) (here : List ℕ) : Type 0 where
  pub code : ℕ
  pub rest : List ℕ
  pub is : here ≡ code ∷ rest
  pub fails : RefusesCode left (end - length here) p unread now code rest fault
      ⊎ ((0 < left) × (admits_code p code ≡ true) × (length now.nodes < NODES) × InConstruct (end - length here) R unread (FailsNext end fault Inner) code now rest)

abbrev pub fails_never : SlotPlace → List ℕ → Progress → List ℕ → Type 0
fails_never p unread now here = ⊥

-- The bytes from here on show the fault of a reference in this place, where so many levels may still begin, with these descriptions unread, and what was read of the nodes.
unfoldable pub Fails : ℕ → Fault → ℕ → SlotPlace → List ℕ → Progress → List ℕ → Type 0
Fails end fault zero p unread now here = FailsHere end fault fails_never gives_none zero p unread now here
Fails end fault (suc left) p unread now here = FailsHere end fault (Fails end fault left) (Reads left) (suc left) p unread now here
