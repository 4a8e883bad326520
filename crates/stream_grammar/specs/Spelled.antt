-- Which bytes spell a reference, and which a stream (Java Object Serialization Specification, 6.4): for each kind of node
-- a code, what stands before the node's handle is given, and what stands after it.
use Rattle.std.specs.Prelude.{◌≡◌, ◌⊎◌, ◌<◌, ◌≤◌, ◌^◌, ℕ, zero, suc, ◌+◌, Bool, true, false, List, [], ◌∷◌, ◌++◌, length, map, Option, Some, slice_get, if◌then◌else◌}
use Rattle.std.specs.List.{AllByRecursion}
use Rattle.std.specs.Int.{Width, w16, w32, w64, to_be_bytes, cast_unsigned}
use Rattle.mod_utf.specs.Utf.{utf}
use Rattle.class_desc.specs.declared.slot.Slot.{Slot}
use Rattle.class_desc.specs.declared.slot.Slot.TheVariants as slots
use Rattle.class_desc.specs.declared.slot.Item.{Item}
use Rattle.class_desc.specs.declared.slot.Item.TheVariants as items
use Rattle.class_desc.specs.declared.field.FieldDesc.{FieldDesc}
use Rattle.class_desc.specs.declared.desc.ClassDesc.{ClassDesc}
use Rattle.class_desc.specs.declared.desc.ProxyDesc.{ProxyDesc}
use Rattle.class_desc.specs.TypeCode.{is_primitive, letter}
use Rattle.class_desc.specs.ClassDesc.{has_flag}
use Rattle.ser_values.specs.declared.value.Value.{Value}
use Rattle.ser_values.specs.declared.value.Value.TheVariants as values
use Rattle.ser_values.specs.declared.value.Values.{Values}
use Rattle.ser_values.specs.declared.value.Values.TheVariants as kinds
use Rattle.ser_values.specs.declared.value.Part.{Part}
use Rattle.ser_values.specs.declared.node.Node.{Node}
use Rattle.ser_values.specs.declared.node.Node.TheVariants.{Text, Desc, Proxy, Object, Array, Class, Enum}
use Rattle.ser_values.specs.declared.node.SlotPlace.TheVariants as places
use Rattle.ser_values.specs.declared.limits.TheConstants.{LEVELS, NODES, PARTS}
use Rattle.ser_values.specs.Node.{has, Want, admits, admits_null, takes, inside}
use Rattle.ser_values.specs.Shape.{fits_chain, count_of, is_shaped, refs_in, parts_in}
use Rattle.ser_values.specs.Ranges.{NumbersFit, UnitsFit}
use Rattle.ser_values.specs.Fronts.{put_block}

-- ---- what is written of a node, in order

-- Bytes as they are; a truth value, of which every byte but 0 is true; a reference in a place; or items up to the end of an annotation.
pub data Token : Type 0 where
  raw : List ℕ → Token
  truth : Bool → Token
  want : Want → Token
  note : List Item → Token

-- a number with its highest byte first
abbrev pub number : Width → ℕ → Token
number w n = raw (to_be_bytes w n)

-- A text with a length of 16 bits, and one with a length of 64.
abbrev pub short_text : List ℕ → Token
short_text t = raw (to_be_bytes w16 (length (utf t)) ++ utf t)

abbrev pub long_text : List ℕ → Token
long_text t = raw (to_be_bytes w64 (length (utf t)) ++ utf t)

abbrev pub reference : Slot → Token
reference s = want (places.Reference, s)

-- A field: its code, its name, and a reference field's type text.
abbrev pub field_tokens : List FieldDesc → List Token
field_tokens [] = []
field_tokens (f ∷ fs) = raw (letter f.code ∷ []) ∷ short_text f.name ∷ (if is_primitive f.code then field_tokens fs else want (places.Text, f.type_text) ∷ field_tokens fs)

abbrev pub value_token : Value → Token
value_token (values.Byte v) = raw (v ∷ [])
value_token (values.Char v) = number w16 v
value_token (values.Double v) = number w64 v
value_token (values.Float v) = number w32 v
value_token (values.Int v) = number w32 (cast_unsigned w32 v)
value_token (values.Long v) = number w64 (cast_unsigned w64 v)
value_token (values.Short v) = number w16 (cast_unsigned w16 v)
value_token (values.Boolean v) = truth v
value_token (values.Ref s) = reference s

abbrev pub element_tokens : Values → List Token
element_tokens (kinds.Bytes v) = map (λ x. raw (x ∷ [])) v
element_tokens (kinds.Chars v) = map (λ x. number w16 x) v
element_tokens (kinds.Doubles v) = map (λ x. number w64 x) v
element_tokens (kinds.Floats v) = map (λ x. number w32 x) v
element_tokens (kinds.Ints v) = map (λ x. number w32 (cast_unsigned w32 x)) v
element_tokens (kinds.Longs v) = map (λ x. number w64 (cast_unsigned w64 x)) v
element_tokens (kinds.Shorts v) = map (λ x. number w16 (cast_unsigned w16 x)) v
element_tokens (kinds.Bools v) = map (λ x. truth x) v
element_tokens (kinds.Refs v) = map (λ s. reference s) v

-- Which descriptions of the slot's chain have a write method, the highest superclass first.
abbrev pub writers_above : (Slot → List Bool) → Option Node → List Bool
writers_above above (Some (Desc d)) = above d.parent ++ has_flag d.flags 1 ∷ []
writers_above above (Some (Proxy p)) = above p.parent ++ false ∷ []
writers_above above _ = []

unfoldable pub writers : List Node → ℕ → Slot → List Bool
writers nodes zero s = []
writers nodes (suc n) slots.Null = []
writers nodes (suc n) (slots.Node k) = writers_above (writers nodes n) (slice_get nodes k)

-- The parts, the highest superclass's first: the values, and a note where the class has a write method.
unfoldable pub part_tokens : List Bool → List Part → List Token
part_tokens ws [] = []
part_tokens [] (p ∷ ps) = []
part_tokens (true ∷ ws) (p ∷ ps) = map value_token p.values ++ (note p.note ∷ part_tokens ws ps)
part_tokens (false ∷ ws) (p ∷ ps) = map value_token p.values ++ part_tokens ws ps

-- The table of codes: the code, what stands before the handle, and what stands after it.
pub data Form (nodes : List Node) : Node → ℕ → List Token → List Token → Type 0 where
  a_text : (t : List ℕ) → length (utf t) < 2 ^ 16 → Form nodes (Text t) 0x74 [] (short_text t ∷ [])
  a_long_text : (t : List ℕ) → length (utf t) < 2 ^ 63 → Form nodes (Text t) 0x7C [] (long_text t ∷ [])
  a_desc : (d : ClassDesc) → Form nodes (Desc d) 0x72 (short_text d.name ∷ number w64 (cast_unsigned w64 d.suid) ∷ [])
      (raw (d.flags ∷ []) ∷ number w16 (length d.fields) ∷ (field_tokens d.fields ++ (note d.note ∷ want (places.Parent, d.parent) ∷ [])))
  a_proxy : (p : ProxyDesc) → Form nodes (Proxy p) 0x7D [] (number w32 (length p.names) ∷ (map short_text p.names ++ (note p.note ∷ want (places.Parent, p.parent) ∷ [])))
  an_object : (c : ℕ) (ps : List Part) → fits_chain nodes ps (length ps) (slots.Node c) ≡ true
      → Form nodes (Object c ps) 0x73 (want (places.Class, slots.Node c) ∷ []) (part_tokens (writers nodes (length ps) (slots.Node c)) ps)
  an_external : (c : ℕ) (p : Part) (d : ClassDesc) → slice_get nodes c ≡ Some (Desc d) → has_flag d.flags 4 ≡ true → p.values ≡ []
      → Form nodes (Object c (p ∷ [])) 0x73 (want (places.Class, slots.Node c) ∷ []) (note p.note ∷ [])
  an_array : (c : ℕ) (vs : Values) → Form nodes (Array c vs) 0x75 (want (places.Class, slots.Node c) ∷ []) (number w32 (count_of vs) ∷ element_tokens vs)
  a_class : (c : ℕ) → Form nodes (Class c) 0x76 (want (places.Class, slots.Node c) ∷ []) []
  an_enum : (c t : ℕ) → Form nodes (Enum c t) 0x7E (want (places.Class, slots.Node c) ∷ []) (want (places.Text, slots.Node t) ∷ [])

-- ---- block data

-- bytes as one block of either form
abbrev pub IsBlock : List ℕ → List ℕ → Type 0
IsBlock p bytes = ((length p < 256) × (bytes ≡ 0x77 ∷ length p ∷ p)) ⊎ ((length p < 2 ^ 31) × (bytes ≡ 0x7A ∷ (to_be_bytes w32 (length p) ++ p)))

-- Neighbouring blocks are one run of bytes, and empty ones are none.
abbrev pub joined : List Item → List Item
joined [] = []
joined (items.Bytes p ∷ is) = put_block p (joined is)
joined (items.Ref s ∷ is) = items.Ref s ∷ joined is

-- ---- spellings: bytes, and those after what they spell; those nodes that have handles, before it and afterwards

abbrev pub Spelling : Type 1
Spelling = List ℕ → Want → ℕ → List ℕ → List ℕ → ℕ → Type 0

abbrev pub One : Type 1
One = Want → ℕ → List ℕ → List ℕ → ℕ → Type 0

-- Blocks and references as they stand, in whatever partition.
abbrev pub SpellsBlocks : One → List Item → ℕ → List ℕ → List ℕ → ℕ → Type 0
SpellsBlocks S [] n bs rest m = (bs ≡ rest) × (m ≡ n)
SpellsBlocks S (items.Bytes p ∷ is) n bs rest m = (block : List ℕ) × (b : List ℕ) × IsBlock p block × (bs ≡ block ++ b) × SpellsBlocks S is n b rest m
SpellsBlocks S (items.Ref s ∷ is) n bs rest m = (b : List ℕ) × (k : ℕ) × S (places.Reference, s) n bs b k × SpellsBlocks S is k b rest m

abbrev pub SpellsItems : One → List Item → ℕ → List ℕ → List ℕ → ℕ → Type 0
SpellsItems S is n bs rest m = (blocks : List Item) × SpellsBlocks S blocks n bs rest m × (is ≡ joined blocks)

-- An annotation ends with 78.
abbrev pub SpellsToken : One → Token → ℕ → List ℕ → List ℕ → ℕ → Type 0
SpellsToken S (raw r) n bs rest m = (bs ≡ r ++ rest) × (m ≡ n)
SpellsToken S (truth true) n bs rest m = (b : ℕ) × (bs ≡ suc b ∷ rest) × (m ≡ n)
SpellsToken S (truth false) n bs rest m = (bs ≡ 0 ∷ rest) × (m ≡ n)
SpellsToken S (want w) n bs rest m = S w n bs rest m
SpellsToken S (note is) n bs rest m = SpellsItems S is n bs (0x78 ∷ rest) m

-- tokens one after the other
abbrev pub SpellsAll : One → List Token → ℕ → List ℕ → List ℕ → ℕ → Type 0
SpellsAll S [] n bs rest m = (bs ≡ rest) × (m ≡ n)
SpellsAll S (t ∷ ts) n bs rest m = (b : List ℕ) × (k : ℕ) × SpellsToken S t n bs b k × SpellsAll S ts k b rest m

-- Null; a handle of a node that has one; or a node that gets its handle here. So many levels may still begin; Inner spells
-- what stands one level down.
pub data Spell (nodes : List Node) (left : ℕ) (Inner : Spelling) (unread : List ℕ) (w : Want) (n : ℕ) (bs rest : List ℕ) (m : ℕ) : Type 0 where
  a_null : w.1 ≡ slots.Null → admits_null w.0 ≡ true → bs ≡ 0x70 ∷ rest → m ≡ n → Spell nodes left Inner unread w n bs rest m
  again : (k : ℕ) (i : Node) → w.1 ≡ slots.Node k → slice_get nodes k ≡ Some i → k < n → takes w.0 (has unread k) i ≡ true
      → bs ≡ 0x71 ∷ (to_be_bytes w32 (0x7E0000 + k) ++ rest) → m ≡ n → Spell nodes left Inner unread w n bs rest m
  fresh : (k : ℕ) (i : Node) (code : ℕ) (befores afters : List Token) (b b1 : List ℕ) → w.1 ≡ slots.Node k → slice_get nodes k ≡ Some i → n ≤ k → k < NODES → 0 < left
      → admits w.0 i ≡ true → is_shaped nodes i ≡ true → Form nodes i code befores afters
      → bs ≡ code ∷ b → SpellsAll (Inner unread) befores n b b1 k → SpellsAll (Inner (inside unread k i)) afters (suc k) b1 rest m → Spell nodes left Inner unread w n bs rest m

abbrev pub never : Spelling
never unread w n bs rest m = ⊥

-- At most so many levels deep.
unfoldable pub Spells : List Node → ℕ → Spelling
Spells nodes zero unread w n bs rest m = Spell nodes zero never unread w n bs rest m
Spells nodes (suc d) unread w n bs rest m = Spell nodes (suc d) (Spells nodes d) unread w n bs rest m

-- The bytes are a stream of these items: the magic number and the version, then the items, which give these nodes their handles in order.
-- The nodes' numbers are in range, the nodes and items have not too many parts, and the bytes are numbers of 8 bits.
pub record IsStream (nodes : List Node) (items : List Item) (bytes : List ℕ) : Type 0 where
  pub contents : List ℕ
  pub headed : bytes ≡ 0xAC ∷ 0xED ∷ 0x00 ∷ 0x05 ∷ contents
  pub spelled : SpellsItems (Spells nodes LEVELS []) items 0 contents [] (length nodes)
  pub numbers : NumbersFit nodes
  pub units : UnitsFit nodes
  pub few_parts : parts_in nodes + refs_in items ≤ PARTS
  pub are_bytes : AllByRecursion (λ b. b < 256) bytes
