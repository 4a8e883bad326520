-- What the bytes show where reading them answers a fault (Java Object Serialization Specification, 6.4): each fault has its own place in them.
use Rattle.std.specs.Prelude.{◌≡◌, ◌≢◌, ◌⊎◌, ◌<◌, ◌≤◌, ◌+◌, ◌-◌, ◌^◌, ℕ, zero, suc, Bool, true, false, ◌||◌, nat_eq, List, [], ◌∷◌, ◌++◌, length, Some, None, Result, Ok, Err, slice_get, if◌then◌else◌}
use Rattle.std.specs.Int.{Width, w16, w32, w64, byte_len, from_be_bytes, cast_signed}
use Rattle.std.specs.List.{AllByRecursion}
use Rattle.mod_utf.specs.Decoding.{IsBadAt}
use Rattle.class_desc.specs.declared.slot.Slot.{Slot}
use Rattle.class_desc.specs.declared.slot.Slot.TheVariants as slots
use Rattle.class_desc.specs.declared.field.TypeCode.{TypeCode}
use Rattle.class_desc.specs.declared.field.FieldDesc.{FieldDesc}
use Rattle.class_desc.specs.declared.check.DescFault.{DescFault}
use Rattle.class_desc.specs.TypeCode.{is_primitive, letter}
use Rattle.class_desc.specs.TypeText.{code_of, HasTypeText}
use Rattle.class_desc.specs.ClassDesc.{IsFirstFault}
use Rattle.class_desc.specs.declared.slot.Item.{Item}
use Rattle.ser_values.specs.declared.node.Node.{Node}
use Rattle.ser_values.specs.declared.node.Node.TheVariants.{Text, Desc}
use Rattle.ser_values.specs.declared.node.SlotPlace.{SlotPlace}
use Rattle.ser_values.specs.declared.node.SlotPlace.TheVariants as places
use Rattle.ser_values.specs.declared.limits.TheConstants.{LEVELS, NODES, PARTS}
use Rattle.ser_values.specs.Node.{has, admits, admits_null}
use Rattle.ser_values.specs.Shape.{is_enum}
use Rattle.stream_grammar.specs.Reading.{FaultKind, bad_magic, bad_code, bad_handle, wrong_handle_kind, bad_desc, bad_utf, negative_length, reset, inner_exception, old_external, Fault, short, bad, too_many, too_deep, ◌>>=◌, byte_at, number_at, size_at, short_at, Progress, Step, Slots, many_at, push, add_parts, field_at, blank, items_at, chain_of, rows_of, sizes_of, refs_among, class_fault, type_in, gives_handle, admits_code, coded, slot_at, no_slots, magic_at, stream_of}

-- Each is a number of 8 bits.
abbrev pub AreBytes : List ℕ → Type 0
AreBytes bs = AllByRecursion (λ b. b < 256) bs

-- ---- where reading comes to a reference

-- What reading knows where a reference begins: how many levels may still begin, the reference's place, the descriptions that are unread, and
-- the nodes so far, which are those whose handles were given.
pub record Asking : Type 0 where
  pub left : ℕ
  pub place : SlotPlace
  pub unread : List ℕ
  pub now : Progress

-- References are read as `slot_at` reads them, but the one that begins at a position is answered by a fault.
unfoldable pub slot_but : ℕ → ℕ → (Asking → Fault) → ℕ → Slots
slot_but end position fault zero p unread now bs =
    if nat_eq (end - length bs) position then Err (fault (record { left = zero; place = p; unread = unread; now = now }))
    else (byte_at bs >>= λ c. coded end zero no_slots p unread (end - length bs) c.0 now c.1)
slot_but end position fault (suc left) p unread now bs =
    if nat_eq (end - length bs) position then Err (fault (record { left = suc left; place = p; unread = unread; now = now }))
    else (byte_at bs >>= λ c. coded end (suc left) (slot_but end position fault left) p unread (end - length bs) c.0 now c.1)

unfoldable pub stream_but : ℕ → ℕ → (Asking → Fault) → List ℕ → Result (List Node × List Item) Fault
stream_but end position fault bytes =
    magic_at end (0xAC ∷ 0xED ∷ 0x00 ∷ 0x05 ∷ []) bytes >>= λ bs.
    items_at end (slot_but end position fault LEVELS places.Reference []) false (record { nodes = []; parts = 0 }) bs >>= λ x.
    Ok (x.1.nodes, x.0)

-- Reading these bytes, which end at a position, comes to a reference that begins at another, and this is known there: any fault that answers
-- the reference answers the whole.
abbrev pub ComesTo : ℕ → List ℕ → ℕ → Asking → Type 0
ComesTo end bytes position asking = (fault : Asking → Fault) → stream_but end position fault bytes ≡ Err (fault asking)

-- What is known there is one: no number that is made of it differs. So one number of handles was given.
abbrev pub ComesToOne : Type 0
ComesToOne = (end : ℕ) (bytes : List ℕ) (position : ℕ) (asking other : Asking) → ComesTo end bytes position asking → ComesTo end bytes position other → (number : Asking → ℕ) → number asking ≡ number other

-- ---- what stands at a position: `front` are the bytes before it, `here` those from it on

-- a number of this width, with its highest byte first
pub record HasNumber (w : Width) (here : List ℕ) (n : ℕ) : Type 0 where
  pub digits : List ℕ
  pub rest : List ℕ
  pub is : here ≡ digits ++ rest
  pub count : length digits ≡ byte_len w
  pub number : n ≡ from_be_bytes w digits

-- The first byte that differs from those of the magic number and the version.
pub record DiffersHere (front here : List ℕ) : Type 0 where
  pub byte : ℕ
  pub rest : List ℕ
  pub is : here ≡ byte ∷ rest
  pub wanted : ℕ
  pub others : List ℕ
  pub head : 0xAC ∷ 0xED ∷ 0x00 ∷ 0x05 ∷ [] ≡ front ++ wanted ∷ others
  pub differs : byte ≢ wanted

-- a byte of which this holds
pub record HasByte (holds : ℕ → Type 0) (here : List ℕ) : Type 0 where
  pub byte : ℕ
  pub rest : List ℕ
  pub is : here ≡ byte ∷ rest
  pub that : holds byte

-- A place takes what begins with this byte: null, a handle, or a construct that gives one.
abbrev pub is_code_of : SlotPlace → ℕ → Bool
is_code_of p code = if nat_eq code 0x70 then admits_null p else (nat_eq code 0x71 || admits_code p code)

-- The place does not take what begins with this byte, which is no code of a fault's own.
abbrev pub IsNoCode : SlotPlace → ℕ → Type 0
IsNoCode p code = (is_code_of p code ≡ false) × (code ≢ 0x79) × (code ≢ 0x7B)

-- A handle, of which this holds.
pub record NamesHandle (holds : ℕ → Type 0) (here : List ℕ) : Type 0 where
  pub rest : List ℕ
  pub is : here ≡ 0x71 ∷ rest
  pub handle : ℕ
  pub number : HasNumber w32 rest handle
  pub that : holds handle

-- The first byte of a spelling at which a text's bytes are no text's. The text begins before it.
pub record IsInBadText (front here : List ℕ) : Type 0 where
  pub before : List ℕ
  pub text : List ℕ
  pub after : List ℕ
  pub are : front ++ here ≡ before ++ (text ++ after)
  pub offset : ℕ
  pub place : length front ≡ length before + offset
  pub unread : IsBadAt text offset

-- A length or a count of 16, 32 or 64 bits whose highest bit is set.
abbrev pub IsNegative : List ℕ → Type 0
IsNegative here = (n : ℕ) × ((HasNumber w16 here n × (2 ^ 15 ≤ n)) ⊎ ((HasNumber w32 here n × (2 ^ 31 ≤ n)) ⊎ (HasNumber w64 here n × (2 ^ 63 ≤ n))))

-- A handle that may have been given by the bytes before: each takes one of them at least.
abbrev pub IsGiven : List ℕ → ℕ → Type 0
IsGiven front h = (0x7E0000 ≤ h) × (h < 0x7E0000 + NODES) × (h < 0x7E0000 + length front)

-- A handle that was not given: it is none of the nodes so far.
abbrev pub IsNotGiven : Asking → ℕ → Type 0
IsNotGiven asking h = (h < 0x7E0000) ⊎ (0x7E0000 + length asking.now.nodes ≤ h)

-- The handle of a node that was given it, which the place does not take.
pub record IsOfWrongKind (asking : Asking) (h : ℕ) : Type 0 where
  pub number : ℕ
  pub node : Node
  pub handle : h ≡ 0x7E0000 + number
  pub given : slice_get asking.now.nodes number ≡ Some node
  pub wrong : admits asking.place node ≡ false

-- The handle of a description that is unread, where a description is wanted.
pub record IsUnread (asking : Asking) (h : ℕ) : Type 0 where
  pub number : ℕ
  pub node : Node
  pub handle : h ≡ 0x7E0000 + number
  pub given : slice_get asking.now.nodes number ≡ Some node
  pub unread : has asking.unread number ≡ true
  pub wanted : (asking.place ≡ places.Class) ⊎ (asking.place ≡ places.Parent)

-- The class behind a construct's code is this node: it is read one level down. `later` is how far reading is then.
pub record ReadsClass (end : ℕ) (asking : Asking) (here : List ℕ) (class : ℕ) (later : Progress) : Type 0 where
  pub code : ℕ
  pub rest : List ℕ
  pub is : here ≡ code ∷ rest
  pub left : ℕ
  pub level : asking.left ≡ suc left
  pub more : List ℕ
  pub read : slot_at end left places.Class asking.unread asking.now rest ≡ Ok (slots.Node class, later, more)

-- A class that is read so, of which this holds.
pub record OfClass (end : ℕ) (asking : Asking) (here : List ℕ) (holds : ℕ → Progress → Type 0) : Type 0 where
  pub class : ℕ
  pub later : Progress
  pub read : ReadsClass end asking here class later
  pub that : holds class later

-- The class has no objects, for this reason.
abbrev pub LacksObjects : FaultKind → ℕ → List Node → Type 0
LacksObjects why class nodes = class_fault (slice_get nodes class) (chain_of PARTS nodes (slots.Node class)).1 ≡ Some why

-- The class is none of arrays.
abbrev pub LacksArrays : ℕ → List Node → Type 0
LacksArrays class nodes = type_in (slice_get nodes class) ≡ None

-- The class is none of constants of an enum.
abbrev pub LacksConstants : ℕ → List Node → Type 0
LacksConstants class nodes = is_enum (slice_get nodes class) ≡ false

-- With an object of this class there are too many parts.
abbrev pub HasTooMany : ℕ → Progress → Type 0
HasTooMany class now = PARTS < now.parts + sizes_of (rows_of (slice_get now.nodes class) (chain_of PARTS now.nodes (slots.Node class)).0)

-- With so many elements of an array behind its class there are too many parts.
pub record HasTooManyElements (end : ℕ) (asking : Asking) (here : List ℕ) : Type 0 where
  pub array : HasByte (λ code. code ≡ 0x75) here
  pub class : ℕ
  pub later : Progress
  pub read : ReadsClass end asking here class later
  pub code : TypeCode
  pub typed : type_in (slice_get later.nodes class) ≡ Some code
  pub count : ℕ
  pub number : HasNumber w32 read.more count
  pub past : PARTS < later.parts + refs_among code count

-- With so many names of a proxy's interfaces there are too many parts.
pub record HasTooManyNames (asking : Asking) (here : List ℕ) : Type 0 where
  pub rest : List ℕ
  pub is : here ≡ 0x7D ∷ rest
  pub count : ℕ
  pub number : HasNumber w32 rest count
  pub past : PARTS < asking.now.parts + count

-- ---- descriptions that break a rule

-- What stands in a description before its fields: its name, its serialVersionUID, its flags and how many fields it has; and the bytes after that.
pub record DescHead : Type 0 where
  pub name : List ℕ
  pub suid : ℕ
  pub flags : ℕ
  pub count : ℕ
  pub rest : List ℕ

unfoldable pub desc_head_at : ℕ → List ℕ → Result DescHead Fault
desc_head_at end bs =
    short_at end bs >>= λ name.
    number_at w64 name.1 >>= λ suid.
    byte_at suid.1 >>= λ flags.
    size_at end w16 32768 flags.1 >>= λ count.
    Ok (record { name = name.0; suid = suid.0; flags = flags.0; count = count.0; rest = count.1 })

-- With so many fields of a description there are too many parts.
pub record HasTooManyFields (end : ℕ) (asking : Asking) (here : List ℕ) : Type 0 where
  pub rest : List ℕ
  pub is : here ≡ 0x72 ∷ rest
  pub head : DescHead
  pub begins : desc_head_at end rest ≡ Ok head
  pub past : PARTS < asking.now.parts + head.count

-- No type has this letter.
abbrev pub IsNoLetter : ℕ → Type 0
IsNoLetter c = (code : TypeCode) → c ≢ letter code

-- The slot names a text, which names a type of the code.
pub record NamesType (nodes : List Node) (code : TypeCode) (s : Slot) : Type 0 where
  pub number : ℕ
  pub text : List ℕ
  pub is : s ≡ slots.Node number
  pub node : slice_get nodes number ≡ Some (Text text)
  pub names : HasTypeText code text

-- A reference field stands here, and what stands for its type text names no type of its letter. `text` is how a text is read inside the description.
pub record HasNoType (end : ℕ) (text : Step Slot) (now : Progress) (here : List ℕ) : Type 0 where
  pub letter : ℕ
  pub rest : List ℕ
  pub is : here ≡ letter ∷ rest
  pub code : TypeCode
  pub typed : code_of letter ≡ Some code
  pub reference : is_primitive code ≡ false
  pub name : List ℕ
  pub behind : List ℕ
  pub named : short_at end rest ≡ Ok (name, behind)
  pub found : Slot
  pub later : Progress
  pub more : List ℕ
  pub read : text now behind ≡ Ok (found, later, more)
  pub wrong : ¬ NamesType later.nodes code found

-- The first rule on flags and fields that a description with these fields breaks.
abbrev pub BreaksRule : DescHead → List FieldDesc → Type 0
BreaksRule head fields = (fault : DescFault) × IsFirstFault (record { name = head.name; suid = cast_signed w64 head.suid; flags = head.flags; fields = fields; note = []; parent = slots.Null }) fault

-- Behind so many fields: it has no more, and breaks a rule; or the next one has a letter of no type, or no type text of its type.
abbrev pub IsBroken : ℕ → Step Slot → DescHead → ℕ → List FieldDesc → Progress → List ℕ → Type 0
IsBroken end text head done fields now here = ((done ≡ head.count) × BreaksRule head fields) ⊎ ((done < head.count) × (HasByte IsNoLetter here ⊎ HasNoType end text now here))

-- A description of a class begins here, and breaks a rule behind its first fields. It is unread inside itself, and is read one level down.
pub record BreaksDesc (end : ℕ) (asking : Asking) (here : List ℕ) : Type 0 where
  pub rest : List ℕ
  pub is : here ≡ 0x72 ∷ rest
  pub left : ℕ
  pub level : asking.left ≡ suc left
  pub head : DescHead
  pub begins : desc_head_at end rest ≡ Ok head
  pub done : ℕ
  pub fields : List FieldDesc
  pub later : Progress
  pub more : List ℕ
  pub read : many_at (field_at end (end - length here) (slot_at end left places.Text (asking.unread ++ length asking.now.nodes ∷ []))) done (add_parts head.count (push asking.now (Desc blank))) head.rest ≡ Ok (fields, later, more)
  pub broken : IsBroken end (slot_at end left places.Text (asking.unread ++ length asking.now.nodes ∷ [])) head done fields later more

-- A description that breaks a rule; an object, an array or a constant of an enum whose class has none; or the handle of a description that is unread.
abbrev pub IsBadDesc : ℕ → Asking → List ℕ → Type 0
IsBadDesc end asking here = BreaksDesc end asking here ⊎ (OfClass end asking here (λ class later. (HasByte (λ code. code ≡ 0x73) here × LacksObjects bad_desc class later.nodes) ⊎ ((HasByte (λ code. code ≡ 0x75) here × LacksArrays class later.nodes) ⊎ (HasByte (λ code. code ≡ 0x7E) here × LacksConstants class later.nodes)))
    ⊎ NamesHandle (λ h. IsUnread asking h) here)

-- ---- faults

-- A reference begins here, `comes` of what is known there, and that refuses it.
pub record IsRefused (comes refuses : Asking → Type 0) : Type 0 where
  pub asking : Asking
  pub known : comes asking
  pub refused : refuses asking

-- What stands at the position of a fault of this kind; `comes` says what is known of a reference that begins there, and the bytes end at `end`.
abbrev pub Shows : ℕ → (Asking → Type 0) → FaultKind → List ℕ → List ℕ → Type 0
Shows end comes bad_magic front here = DiffersHere front here
Shows end comes bad_code front here = IsRefused comes (λ asking. HasByte (λ code. IsNoCode asking.place code) here)
Shows end comes bad_handle front here = IsRefused comes (λ asking. NamesHandle (λ h. IsNotGiven asking h) here)
Shows end comes wrong_handle_kind front here = IsRefused comes (λ asking. NamesHandle (λ h. IsGiven front h × IsOfWrongKind asking h) here)
Shows end comes bad_desc front here = IsRefused comes (λ asking. IsBadDesc end asking here)
Shows end comes bad_utf front here = IsInBadText front here
Shows end comes negative_length front here = IsNegative here
Shows end comes reset front here = IsRefused comes (λ asking. HasByte (λ code. code ≡ 0x79) here)
Shows end comes inner_exception front here = IsRefused comes (λ asking. HasByte (λ code. code ≡ 0x7B) here)
Shows end comes old_external front here = IsRefused comes (λ asking. OfClass end asking here (λ class later. HasByte (λ code. code ≡ 0x73) here × LacksObjects old_external class later.nodes))

-- This stands at a position in bytes, the first of which has the position `start`.
pub record StandsAt (start : ℕ) (bytes : List ℕ) (position : ℕ) (shows : List ℕ → List ℕ → Type 0) : Type 0 where
  pub front : List ℕ
  pub here : List ℕ
  pub parts : bytes ≡ front ++ here
  pub place : position ≡ start + length front
  pub shown : shows front here

-- The code of a construct that gives a handle, and may stand in the place.
abbrev pub IsConstruct : SlotPlace → ℕ → Type 0
IsConstruct p code = (gives_handle code ≡ true) × (admits_code p code ≡ true)

-- There are as many nodes as there may be, before the construct or behind its class; so there are as many bytes, for each takes one at least.
abbrev pub IsPastNodes : ℕ → Asking → List ℕ → List ℕ → Type 0
IsPastNodes end asking front here = (NODES ≤ length front + length here) × ((NODES ≤ length asking.now.nodes) ⊎ OfClass end asking here (λ class later. NODES ≤ length later.nodes))

-- With an object, an array, a proxy's names or a description's fields there are too many parts.
abbrev pub IsPastParts : ℕ → Asking → List ℕ → Type 0
IsPastParts end asking here = OfClass end asking here (λ class later. HasByte (λ code. code ≡ 0x73) here × HasTooMany class later) ⊎ (HasTooManyElements end asking here ⊎ (HasTooManyNames asking here ⊎ HasTooManyFields end asking here))

-- The reference's place takes any, as that of an item does. Once it was read, there are as many parts as there may be, and as an item it would be
-- one more.
pub record IsPastItems (end : ℕ) (asking : Asking) (here : List ℕ) : Type 0 where
  pub place : asking.place ≡ places.Reference
  pub found : Slot
  pub later : Progress
  pub more : List ℕ
  pub read : slot_at end asking.left asking.place asking.unread asking.now here ≡ Ok (found, later, more)
  pub past : PARTS < later.parts + 1

-- A node too many, or a part.
abbrev pub IsOneTooMany : ℕ → (Asking → Type 0) → List ℕ → List ℕ → Type 0
IsOneTooMany end comes front here = IsRefused comes (λ asking. (HasByte (λ code. IsConstruct asking.place code) here × (IsPastNodes end asking front here ⊎ IsPastParts end asking here)) ⊎ IsPastItems end asking here)

-- No level may begin here: so many have begun before it, each with a code.
abbrev pub IsTooDeep : (Asking → Type 0) → List ℕ → List ℕ → Type 0
IsTooDeep comes front here = IsRefused comes (λ asking. HasByte (λ code. IsConstruct asking.place code) here × (asking.left ≡ 0) × (LEVELS ≤ length front))

-- The bytes end too early: no front of them is refused, and there are bytes with which reading goes on past their end. Behind them it wants no
-- more: what stands there is a stream, or it is refused.
pub record EndsEarly (bytes : List ℕ) : Type 0 where
  pub unrefused : (front rest : List ℕ) (fault : Fault) → bytes ≡ front ++ rest → stream_of front ≡ Err fault → fault ≡ short
  pub more : List ℕ
  pub are_bytes : AreBytes more
  pub enough : stream_of (bytes ++ more) ≢ Err short

-- What the bytes show of a fault.
abbrev pub FaultStands : ℕ → List ℕ → Fault → Type 0
FaultStands start bytes short = EndsEarly bytes
FaultStands start bytes (bad kind at) = StandsAt start bytes at (Shows (start + length bytes) (λ asking. ComesTo (start + length bytes) bytes at asking) kind)
FaultStands start bytes (too_many at) = StandsAt start bytes at (IsOneTooMany (start + length bytes) (λ asking. ComesTo (start + length bytes) bytes at asking))
FaultStands start bytes (too_deep at) = StandsAt start bytes at (IsTooDeep (λ asking. ComesTo (start + length bytes) bytes at asking))

-- Where reading bytes answers a fault, it stands in them.
abbrev pub FaultsStand : Type 0
FaultsStand = (bytes : List ℕ) (fault : Fault) → stream_of bytes ≡ Err fault → FaultStands 0 bytes fault
