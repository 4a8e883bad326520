-- What bytes give of a reference, beside the nodes so far (Java Object Serialization Specification, 6.4): each construct splits its bytes into the parts that the grammar
-- gives it. One that is still being read stands empty among the nodes, and is written over when it was read.
use Rattle.std.specs.Prelude.{◌≡◌, ◌≢◌, ◌⊎◌, ◌<◌, ◌≤◌, ◌+◌, ◌-◌, ◌^◌, ℕ, zero, suc, Bool, true, false, not, nat_eq, List, [], ◌∷◌, ◌++◌, length, Some, None, slice_get}
use Rattle.std.specs.Int.{Width, w16, w32, w64, byte_len, from_be_bytes, cast_signed}
use Rattle.mod_utf.specs.Utf.{Utf}
use Rattle.class_desc.specs.declared.slot.Slot.{Slot}
use Rattle.class_desc.specs.declared.slot.Slot.TheVariants as slots
use Rattle.class_desc.specs.declared.slot.Item.{Item}
use Rattle.class_desc.specs.declared.slot.Item.TheVariants as items
use Rattle.class_desc.specs.declared.field.TypeCode.{TypeCode}
use Rattle.class_desc.specs.declared.field.TypeCode.TheVariants as codes
use Rattle.class_desc.specs.declared.field.FieldDesc.{FieldDesc}
use Rattle.class_desc.specs.declared.desc.ClassDesc.{ClassDesc}
use Rattle.class_desc.specs.TypeCode.{is_primitive}
use Rattle.class_desc.specs.TypeText.{code_of}
use Rattle.class_desc.specs.ClassDesc.{is_good_desc}
use Rattle.ser_values.specs.declared.value.Value.{Value}
use Rattle.ser_values.specs.declared.value.Value.TheVariants as values
use Rattle.ser_values.specs.declared.value.Values.{Values}
use Rattle.ser_values.specs.declared.value.Values.TheVariants as kinds
use Rattle.ser_values.specs.declared.value.Part.{Part}
use Rattle.ser_values.specs.declared.node.Node.{Node}
use Rattle.ser_values.specs.declared.node.Node.TheVariants.{Text, Desc, Proxy, Object, Array, Class, Enum}
use Rattle.ser_values.specs.declared.node.SlotPlace.{SlotPlace}
use Rattle.ser_values.specs.declared.node.SlotPlace.TheVariants as places
use Rattle.ser_values.specs.declared.limits.TheConstants.{NODES, PARTS}
use Rattle.ser_values.specs.Node.{has, admits_null, takes}
use Rattle.ser_values.specs.Shape.{fits_type, is_enum}
use Rattle.stream_grammar.specs.Spelled.{joined}
use Rattle.stream_grammar.specs.Reading.{Progress, push, fill, add_parts, Row, chain_of, rows_of, sizes_of, refs_among, class_fault, type_in, admits_code, blank}
use Rattle.stream_grammar.specs.Faults.{DescHead}

-- ---- numbers and texts: what they give, and the bytes behind them

-- a byte
abbrev pub HasByte : List ℕ → ℕ × List ℕ → Type 0
HasByte here y = here ≡ y.0 ∷ y.1

-- a number with its highest byte first
abbrev pub HasNumber : Width → List ℕ → ℕ × List ℕ → Type 0
HasNumber w here y = (digits : List ℕ) × (here ≡ digits ++ y.1) × (length digits ≡ byte_len w) × (y.0 ≡ from_be_bytes w digits)

-- a length or a count below a bound
abbrev pub HasSize : Width → ℕ → List ℕ → ℕ × List ℕ → Type 0
HasSize w bound here y = HasNumber w here y × (y.0 < bound)

-- the bytes of a text, so many
abbrev pub HasUnits : ℕ → List ℕ → List ℕ × List ℕ → Type 0
HasUnits n here y = (bytes : List ℕ) × (here ≡ bytes ++ y.1) × (length bytes ≡ n) × Utf y.0 bytes

-- a text with a length of 16 bits, and one with a length of 64
abbrev pub HasText : List ℕ → List ℕ × List ℕ → Type 0
HasText here y = (n : ℕ × List ℕ) × HasNumber w16 here n × HasUnits n.0 n.1 y

abbrev pub HasLongText : List ℕ → List ℕ × List ℕ → Type 0
HasLongText here y = (n : ℕ × List ℕ) × HasSize w64 (2 ^ 63) here n × HasUnits n.0 n.1 y

-- ---- steps: from the nodes so far and the bytes to come to what they give, the nodes then, and the bytes behind

abbrev pub Gives : Type 0 → Type 1
Gives A = Progress → List ℕ → A × Progress × List ℕ → Type 0

-- a reference in a place, with these descriptions unread
abbrev pub References : Type 1
References = SlotPlace → List ℕ → Gives Slot

-- what changes no nodes
abbrev pub Plainly : {A : Type 0} → (List ℕ → A × List ℕ → Type 0) → Gives A
Plainly gives now here y = (x : _ × List ℕ) × gives here x × (y ≡ (x.0, now, x.1))

abbrev pub As : {A B : Type 0} → (A → B) → Gives A → Gives B
As f gives now here y = (x : _ × Progress × List ℕ) × gives now here x × (y ≡ (f x.0, x.1, x.2))

-- so many, one after the other
abbrev pub Many : {A : Type 0} → Gives A → ℕ → Gives (List A)
Many gives zero now here y = y ≡ ([], now, here)
Many gives (suc n) now here y = (x : _ × Progress × List ℕ) × gives now here x × (xs : List _ × Progress × List ℕ) × Many gives n x.1 x.2 xs × (y ≡ (x.0 ∷ xs.0, xs.1, xs.2))

-- ---- values and elements

abbrev pub HasValue : Gives Slot → TypeCode → Gives Value
HasValue R codes.Byte = As values.Byte (Plainly HasByte)
HasValue R codes.Char = As values.Char (Plainly (HasNumber w16))
HasValue R codes.Double = As values.Double (Plainly (HasNumber w64))
HasValue R codes.Float = As values.Float (Plainly (HasNumber w32))
HasValue R codes.Int = As (λ n. values.Int (cast_signed w32 n)) (Plainly (HasNumber w32))
HasValue R codes.Long = As (λ n. values.Long (cast_signed w64 n)) (Plainly (HasNumber w64))
HasValue R codes.Short = As (λ n. values.Short (cast_signed w16 n)) (Plainly (HasNumber w16))
HasValue R codes.Boolean = As (λ b. values.Boolean (not (nat_eq b 0))) (Plainly HasByte)
HasValue R codes.Array = As values.Ref R
HasValue R codes.Object = As values.Ref R

abbrev pub HasValues : Gives Slot → List FieldDesc → Gives (List Value)
HasValues R [] now here y = y ≡ ([], now, here)
HasValues R (f ∷ fs) now here y = (x : Value × Progress × List ℕ) × HasValue R f.code now here x × (xs : List Value × Progress × List ℕ) × HasValues R fs x.1 x.2 xs × (y ≡ (x.0 ∷ xs.0, xs.1, xs.2))

abbrev pub HasElements : Gives Slot → TypeCode → ℕ → Gives Values
HasElements R codes.Byte n = As kinds.Bytes (Many (Plainly HasByte) n)
HasElements R codes.Char n = As kinds.Chars (Many (Plainly (HasNumber w16)) n)
HasElements R codes.Double n = As kinds.Doubles (Many (Plainly (HasNumber w64)) n)
HasElements R codes.Float n = As kinds.Floats (Many (Plainly (HasNumber w32)) n)
HasElements R codes.Int n = As kinds.Ints (Many (As (λ k. cast_signed w32 k) (Plainly (HasNumber w32))) n)
HasElements R codes.Long n = As kinds.Longs (Many (As (λ k. cast_signed w64 k) (Plainly (HasNumber w64))) n)
HasElements R codes.Short n = As kinds.Shorts (Many (As (λ k. cast_signed w16 k) (Plainly (HasNumber w16))) n)
HasElements R codes.Boolean n = As kinds.Bools (Many (As (λ b. not (nat_eq b 0)) (Plainly HasByte)) n)
HasElements R codes.Array n = As kinds.Refs (Many R n)
HasElements R codes.Object n = As kinds.Refs (Many R n)

-- ---- annotations

-- A block of these bytes, in either form.
abbrev pub HasBlock : List ℕ → List ℕ → List ℕ → Type 0
HasBlock p here rest = (here ≡ 0x77 ∷ length p ∷ (p ++ rest)) ⊎ ((digits : List ℕ) × (length digits ≡ 4) × (from_be_bytes w32 digits ≡ length p) × (length p < 2 ^ 31) × (here ≡ 0x7A ∷ (digits ++ (p ++ rest))))

-- No block begins here, nor, inside an annotation, does its end.
pub record BeginsReference (within : Bool) (here : List ℕ) : Type 0 where
  pub code : ℕ
  pub rest : List ℕ
  pub is : here ≡ code ∷ rest
  pub goes_on : within ≡ true → code ≢ 0x78
  pub no_block : code ≢ 0x77
  pub no_long_block : code ≢ 0x7A

-- These blocks and references stand here, one after the other. Each reference is a part, which has room once the reference was read.
abbrev pub Follow : Bool → Gives Slot → List Item → Progress → List ℕ → Progress → List ℕ → Type 0
Follow within R [] now here later there = (here ≡ there) × (now ≡ later)
Follow within R (items.Bytes p ∷ is) now here later there = (rest : List ℕ) × HasBlock p here rest × Follow within R is now rest later there
Follow within R (items.Ref s ∷ is) now here later there = BeginsReference within here × (mid : Progress) × (rest : List ℕ) × R now here (s, mid, rest) × (mid.parts + 1 ≤ PARTS) × Follow within R is (add_parts 1 mid) rest later there

-- An annotation, up to its end: each of its blocks and references takes a byte at least.
pub record HasNote (R : Gives Slot) (now : Progress) (here : List ℕ) (y : List Item × Progress × List ℕ) : Type 0 where
  pub blocks : List Item
  pub few : length blocks ≤ length here
  pub follow : Follow true R blocks now here y.1 (0x78 ∷ y.2)
  pub same : y.0 ≡ joined blocks

-- ---- constructs behind their codes

-- A field: its letter, its name, and a reference field's type text, which is one of its type.
pub record HasField (R : References) (unread : List ℕ) (now : Progress) (here : List ℕ) (y : FieldDesc × Progress × List ℕ) : Type 0 where
  pub letter : ℕ
  pub rest : List ℕ
  pub is : here ≡ letter ∷ rest
  pub code : TypeCode
  pub typed : code_of letter ≡ Some code
  pub name : List ℕ × List ℕ
  pub named : HasText rest name
  pub gives : ((is_primitive code ≡ true) × (y ≡ (record { code = code; name = name.0; type_text = slots.Null }, now, name.1)))
      ⊎ ((is_primitive code ≡ false) × (t : Slot × Progress × List ℕ) × R places.Text unread now name.1 t × (fits_type t.1.nodes code t.0 ≡ true) × (y ≡ (record { code = code; name = name.0; type_text = t.0 }, t.1, t.2)))

-- What stands before a description's fields: its name, its serialVersionUID, its flags and how many fields it has; and the bytes after that.
pub record HasDescHead (here : List ℕ) (head : DescHead) : Type 0 where
  pub behind_name : List ℕ
  pub named : HasText here (head.name, behind_name)
  pub behind_suid : List ℕ
  pub numbered : HasNumber w64 behind_name (head.suid, behind_suid)
  pub behind_flags : List ℕ
  pub flagged : HasByte behind_suid (head.flags, behind_flags)
  pub counted : HasSize w16 32768 behind_flags (head.count, head.rest)

-- A description with these fields, before its annotation.
abbrev pub desc_of : DescHead → List FieldDesc → ClassDesc
desc_of head fields = record { name = head.name; suid = cast_signed w64 head.suid; flags = head.flags; fields = fields; note = []; parent = slots.Null }

abbrev pub whole_desc : DescHead → List FieldDesc → List Item → Slot → ClassDesc
whole_desc head fields note parent = record { name = head.name; suid = cast_signed w64 head.suid; flags = head.flags; fields = fields; note = note; parent = parent }

-- The fields of a description stand behind its head. They are parts, and have room.
pub record HasFields (R : References) (unread : List ℕ) (first : Progress) (here : List ℕ) : Type 0 where
  pub head : DescHead
  pub begins : HasDescHead here head
  pub few : first.parts + head.count ≤ PARTS
  pub fields : List FieldDesc
  pub later : Progress
  pub there : List ℕ
  pub read : Many (HasField R unread) head.count (add_parts head.count first) head.rest (fields, later, there)

-- A description of a class, behind its code: it is unread inside itself.
pub record GivesDesc (R : References) (unread : List ℕ) (now : Progress) (here : List ℕ) (y : Slot × Progress × List ℕ) : Type 0 where
  pub d : HasFields R (unread ++ length now.nodes ∷ []) (push now (Desc blank)) here
  pub good : is_good_desc (desc_of d.head d.fields) ≡ true
  pub note : List Item × Progress × List ℕ
  pub noted : HasNote (R places.Reference (unread ++ length now.nodes ∷ [])) d.later d.there note
  pub parent : Slot × Progress × List ℕ
  pub above : R places.Parent (unread ++ length now.nodes ∷ []) note.1 note.2 parent
  pub same : y ≡ (slots.Node (length now.nodes), fill parent.1 (length now.nodes) (Desc (whole_desc d.head d.fields note.0 parent.0)), parent.2)

-- The names of a proxy's interfaces stand behind their number. They are parts, and have room.
pub record HasInterfaces (first : Progress) (here : List ℕ) : Type 0 where
  pub count : ℕ × List ℕ
  pub begins : HasSize w32 (2 ^ 31) here count
  pub few : first.parts + count.0 ≤ PARTS
  pub names : List (List ℕ)
  pub later : Progress
  pub there : List ℕ
  pub read : Many (Plainly HasText) count.0 (add_parts count.0 first) count.1 (names, later, there)

pub record GivesProxy (R : References) (unread : List ℕ) (now : Progress) (here : List ℕ) (y : Slot × Progress × List ℕ) : Type 0 where
  pub d : HasInterfaces (push now (Desc blank)) here
  pub note : List Item × Progress × List ℕ
  pub noted : HasNote (R places.Reference (unread ++ length now.nodes ∷ [])) d.later d.there note
  pub parent : Slot × Progress × List ℕ
  pub above : R places.Parent (unread ++ length now.nodes ∷ []) note.1 note.2 parent
  pub same : y ≡ (slots.Node (length now.nodes), fill parent.1 (length now.nodes) (Proxy (record { names = d.names; note = note.0; parent = parent.0 })), parent.2)

-- ---- behind the class

abbrev pub HasNoteIf : Gives Slot → Bool → Gives (List Item)
HasNoteIf R true now here y = HasNote R now here y
HasNoteIf R false now here y = y ≡ ([], now, here)

-- The parts of an object, one class of its chain after the other: the values, and an annotation where the class has a write method.
abbrev pub HasParts : Gives Slot → List Row → Gives (List Part)
HasParts R [] now here y = y ≡ ([], now, here)
HasParts R (r ∷ rs) now here y = (vs : List Value × Progress × List ℕ) × HasValues R r.0 now here vs × (is : List Item × Progress × List ℕ) × HasNoteIf R r.1 vs.1 vs.2 is
    × (ps : List Part × Progress × List ℕ) × HasParts R rs is.1 is.2 ps × (y ≡ (record { values = vs.0; note = is.0 } ∷ ps.0, ps.1, ps.2))

-- the rows of an object of the class
abbrev pub rows_in : Progress → ℕ → List Row
rows_in now class = rows_of (slice_get now.nodes class) (chain_of PARTS now.nodes (slots.Node class)).0

-- an object whose parts are counted, and still to be read
abbrev pub with_object : Progress → ℕ → Progress
with_object now class = record { nodes = now.nodes ++ Object class [] ∷ []; parts = now.parts + sizes_of (rows_in now class) }

pub record GivesObject (R : References) (unread : List ℕ) (class : ℕ) (now : Progress) (here : List ℕ) (y : Slot × Progress × List ℕ) : Type 0 where
  pub few : now.parts + sizes_of (rows_in now class) ≤ PARTS
  pub objects : class_fault (slice_get now.nodes class) (chain_of PARTS now.nodes (slots.Node class)).1 ≡ None
  pub parts : List Part × Progress × List ℕ
  pub read : HasParts (R places.Reference unread) (rows_in now class) (with_object now class) here parts
  pub same : y ≡ (slots.Node (length now.nodes), fill parts.1 (length now.nodes) (Object class parts.0), parts.2)

pub record GivesArray (R : References) (unread : List ℕ) (class : ℕ) (now : Progress) (here : List ℕ) (y : Slot × Progress × List ℕ) : Type 0 where
  pub code : TypeCode
  pub typed : type_in (slice_get now.nodes class) ≡ Some code
  pub count : ℕ × List ℕ
  pub sized : HasSize w32 (2 ^ 31) here count
  pub few : now.parts + refs_among code count.0 ≤ PARTS
  pub elements : Values × Progress × List ℕ
  pub read : HasElements (R places.Reference unread) code count.0 (add_parts (refs_among code count.0) (push now (Array class (kinds.Bytes [])))) count.1 elements
  pub same : y ≡ (slots.Node (length now.nodes), fill elements.1 (length now.nodes) (Array class elements.0), elements.2)

pub record GivesEnum (R : References) (unread : List ℕ) (class : ℕ) (now : Progress) (here : List ℕ) (y : Slot × Progress × List ℕ) : Type 0 where
  pub enum : is_enum (slice_get now.nodes class) ≡ true
  pub constant : ℕ
  pub later : Progress
  pub there : List ℕ
  pub read : R places.Text unread (push now (Enum class 0)) here (slots.Node constant, later, there)
  pub same : y ≡ (slots.Node (length now.nodes), fill later (length now.nodes) (Enum class constant), there)

pub data GivesClassed (R : References) (unread : List ℕ) (code class : ℕ) (now : Progress) (here : List ℕ) (y : Slot × Progress × List ℕ) : Type 0 where
  an_object : code ≡ 0x73 → GivesObject R unread class now here y → GivesClassed R unread code class now here y
  an_array : code ≡ 0x75 → GivesArray R unread class now here y → GivesClassed R unread code class now here y
  a_class : code ≡ 0x76 → y ≡ (slots.Node (length now.nodes), push now (Class class), here) → GivesClassed R unread code class now here y
  an_enum : code ≡ 0x7E → GivesEnum R unread class now here y → GivesClassed R unread code class now here y

-- A construct behind its code.
pub data GivesConstruct (R : References) (unread : List ℕ) (code : ℕ) (now : Progress) (here : List ℕ) (y : Slot × Progress × List ℕ) : Type 0 where
  a_short_text : (t : List ℕ × List ℕ) → code ≡ 0x74 → HasText here t → y ≡ (slots.Node (length now.nodes), push now (Text t.0), t.1) → GivesConstruct R unread code now here y
  a_long_text : (t : List ℕ × List ℕ) → code ≡ 0x7C → HasLongText here t → y ≡ (slots.Node (length now.nodes), push now (Text t.0), t.1) → GivesConstruct R unread code now here y
  a_desc : code ≡ 0x72 → GivesDesc R unread now here y → GivesConstruct R unread code now here y
  a_proxy : code ≡ 0x7D → GivesProxy R unread now here y → GivesConstruct R unread code now here y
  of_class : (class : ℕ) (later : Progress) (there : List ℕ) → R places.Class unread now here (slots.Node class, later, there) → length later.nodes < NODES → GivesClassed R unread code class later there y → GivesConstruct R unread code now here y

-- ---- references

-- Null; a handle of a node that was given it, and that the place takes; or a construct, where its place takes it, a level may still begin, and there is room for a node.
pub data GivesCode (R : References) (left : ℕ) (p : SlotPlace) (unread : List ℕ) (now : Progress) (code : ℕ) (here : List ℕ) (y : Slot × Progress × List ℕ) : Type 0 where
  a_null : code ≡ 0x70 → admits_null p ≡ true → y ≡ (slots.Null, now, here) → GivesCode R left p unread now code here y
  a_handle : (h : ℕ × List ℕ) (node : Node) → code ≡ 0x71 → HasNumber w32 here h → 0x7E0000 ≤ h.0 → slice_get now.nodes (h.0 - 0x7E0000) ≡ Some node → takes p (has unread (h.0 - 0x7E0000)) node ≡ true
      → y ≡ (slots.Node (h.0 - 0x7E0000), now, h.1) → GivesCode R left p unread now code here y
  a_construct : 0 < left → admits_code p code ≡ true → length now.nodes < NODES → GivesConstruct R unread code now here y → GivesCode R left p unread now code here y

pub record GivesHere (R : References) (left : ℕ) (p : SlotPlace) (unread : List ℕ) (now : Progress) (here : List ℕ) (y : Slot × Progress × List ℕ) : Type 0 where
  pub code : ℕ
  pub rest : List ℕ
  pub is : here ≡ code ∷ rest
  pub gives : GivesCode R left p unread now code rest y

abbrev pub gives_none : References
gives_none p unread now here y = ⊥

-- What the bytes give of a reference in a place, where so many levels may still begin, with these descriptions unread.
unfoldable pub Reads : ℕ → References
Reads zero p unread now here y = GivesHere gives_none zero p unread now here y
Reads (suc left) p unread now here y = GivesHere (Reads left) (suc left) p unread now here y
