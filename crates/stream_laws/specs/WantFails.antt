-- Which fault bytes show of what a list of wants asks for, and of a stream that is read to its end. The bytes end at the position `end`.
use Rattle.std.specs.Prelude.{◌≡◌, ◌≢◌, ◌⊎◌, ◌↔◌, ◌<◌, ◌≤◌, ◌+◌, ◌-◌, ◌^◌, ℕ, zero, suc, false, List, [], ◌∷◌, ◌++◌, length, Ok, Err}
use Rattle.std.specs.Int.{w32}
use Rattle.class_desc.specs.declared.slot.Slot.{Slot}
use Rattle.class_desc.specs.declared.slot.Item.{Item}
use Rattle.ser_values.specs.declared.node.Node.{Node}
use Rattle.ser_values.specs.declared.node.SlotPlace.{SlotPlace}
use Rattle.ser_values.specs.declared.node.SlotPlace.TheVariants as places
use Rattle.ser_values.specs.Ranges.{NumbersFit, UnitsFit}
use Rattle.ser_values.specs.declared.limits.TheConstants.{LEVELS, NODES, PARTS}
use Rattle.ser_values.specs.Shape.{refs_in, parts_in}
use Rattle.stream_grammar.specs.Spelled.{Spells, IsStream}
use Rattle.stream_grammar.specs.Reading.{bad_magic, bad_code, negative_length, reset, inner_exception, Fault, short, bad, too_many, Progress, add_parts, slot_at}
use Rattle.stream_grammar.specs.Faults.{AreBytes, DiffersHere}
use Rattle.ser_read.specs.declared.serving.Want.{Want}
use Rattle.ser_read.specs.declared.serving.Want.TheVariants as wanted
use Rattle.ser_read.specs.Wants.{WantFault, inside, missing_block, block_left, serve_to_close, wants_at}
use Rattle.ser_read.specs.Whole as whole
use Rattle.ser_read.specs.SpelledWants.{SpellsWants}
use Rattle.ser_read.specs.Heading.{IsBlockHeader, EndsInBlock, inside_block}
use Rattle.ser_read.specs.WantLaws.{AreEmptyBlocks, BeginsNoBlock}
use Rattle.stream_laws.specs.Reads.{HasByte, HasNumber, BeginsReference, Reads}
use Rattle.stream_laws.specs.Fails.{FailsNext, Fails, InItems}

-- ---- how far a list of wants comes

-- These wants are spelled in front, up to the end of a block or a reference. Then empty blocks were passed over, and these bytes come.
pub record Behind (wants : List Want) (contents there : List ℕ) : Type 0 where
  pub answers : List Item
  pub nodes : List Node
  pub front : List ℕ
  pub spelled : SpellsWants wants answers nodes front
  pub count : ℕ
  pub blocks : List ℕ
  pub empty : AreEmptyBlocks count blocks
  pub parts : contents ≡ front ++ (blocks ++ there)

-- A reference is wanted here.
pub record ReferenceWanted (wants : List Want) (contents there : List ℕ) : Type 0 where
  pub before : List Want
  pub later : List Want
  pub are : wants ≡ before ++ wanted.Slot ∷ later
  pub behind : Behind before contents there

-- Bytes of block data are wanted here: of so many fewer were there, and with the last of them a block ends.
pub record BytesWanted (wants : List Want) (contents there : List ℕ) : Type 0 where
  pub before : List Want
  pub later : List Want
  pub n : ℕ
  pub are : wants ≡ before ++ wanted.Bytes n ∷ later
  pub count : ℕ
  pub fewer : count < n
  pub behind : Behind (before ++ wanted.Bytes count ∷ []) contents there

-- The next byte of block data is one of so many, from this byte on: of the present block, or of the next one that has bytes.
abbrev pub Opens : ℕ → List ℕ → ℕ × List ℕ → Type 0
Opens zero here o = (0 < o.0) × (count : ℕ) × (blocks header : List ℕ) × AreEmptyBlocks count blocks × IsBlockHeader o.0 header × (here ≡ blocks ++ (header ++ o.1))
Opens (suc left) here o = o ≡ (suc left, here)

-- So many bytes of block data, where so many of the present block are left: those bytes, how many of a block are left then, and what is behind them.
abbrev pub Runs : ℕ → ℕ → List ℕ → List ℕ × ℕ × List ℕ → Type 0
Runs zero left here y = y ≡ ([], left, here)
Runs (suc n) left here y = (o : ℕ × List ℕ) × Opens left here o × (b : ℕ × List ℕ) × HasByte o.1 b × (r : List ℕ × ℕ × List ℕ) × Runs n (o.0 - 1) b.1 r × (y ≡ (b.0 ∷ r.0, r.1, r.2))

-- A reference behind empty blocks. It is a part, which has room once the reference was read.
pub record HasReference (now : Progress) (here : List ℕ) (later : Progress) (rest : List ℕ) : Type 0 where
  pub count : ℕ
  pub blocks : List ℕ
  pub empty : AreEmptyBlocks count blocks
  pub there : List ℕ
  pub parts : here ≡ blocks ++ there
  pub begins : BeginsReference false there
  pub slot : Slot
  pub mid : Progress
  pub read : Reads LEVELS places.Reference [] now there (slot, mid, rest)
  pub few : mid.parts + 1 ≤ PARTS
  pub same : later ≡ add_parts 1 mid

-- What the wants ask for, one after the other: the nodes then, how many bytes of the present block are left, and what is behind.
abbrev pub Serves : List Want → Progress → ℕ → List ℕ → Progress × ℕ × List ℕ → Type 0
Serves [] now left here y = y ≡ (now, left, here)
Serves (wanted.Bytes n ∷ ws) now left here y = (r : List ℕ × ℕ × List ℕ) × Runs n left here r × Serves ws now r.1 r.2 y
Serves (wanted.Slot ∷ ws) now left here y = (left ≡ 0) × (later : Progress) × (rest : List ℕ) × HasReference now here later rest × Serves ws later 0 rest y

-- Behind these wants bytes of a block are left, and these come.
pub record LeftInBlock (wants : List Want) (contents there : List ℕ) : Type 0 where
  pub later : Progress
  pub left : ℕ
  pub serves : Serves wants whole.nothing_read 0 contents (later, left, there)
  pub some : 0 < left

-- what was read of the nodes behind these answers, where nothing else is being read
abbrev pub so_far : List Node → List Item → Progress
so_far nodes answers = record { nodes = nodes; parts = parts_in nodes + refs_in answers }

-- ---- faults of wants

-- Which fault the bytes behind the version show: of the reference that is wanted; of one that is read, and is a part too many; of the length of the next block; of
-- a code where block data is wanted; or of a block that is left where a reference or the end is wanted.
pub data WantFails (end : ℕ) (wants : List Want) (contents : List ℕ) : WantFault → Type 0 where
  of_reference : (fault : Fault) (there : List ℕ) (w : ReferenceWanted wants contents there) → BeginsReference false there → Fails end fault LEVELS places.Reference [] (so_far w.behind.nodes w.behind.answers) there → WantFails end wants contents (inside fault)
  of_part : (there : List ℕ) (x : Slot × Progress × List ℕ) (w : ReferenceWanted wants contents there) → BeginsReference false there → Reads LEVELS places.Reference [] (so_far w.behind.nodes w.behind.answers) there x → PARTS < x.1.parts + 1
      → WantFails end wants contents (inside (too_many (end - length there)))
  of_length : (there : List ℕ) (n : ℕ × List ℕ) → ReferenceWanted wants contents (0x7A ∷ there) ⊎ BytesWanted wants contents (0x7A ∷ there) → HasNumber w32 there n → 2 ^ 31 ≤ n.0 → WantFails end wants contents (inside (bad negative_length (end - length there)))
  of_reset : (there : List ℕ) → BytesWanted wants contents (0x79 ∷ there) → WantFails end wants contents (inside (bad reset (end - length (0x79 ∷ there))))
  of_exception : (there : List ℕ) → BytesWanted wants contents (0x7B ∷ there) → WantFails end wants contents (inside (bad inner_exception (end - length (0x7B ∷ there))))
  of_code : (code : ℕ) (there : List ℕ) → BytesWanted wants contents (code ∷ there) → (code < 0x70) ⊎ (0x7E < code) → WantFails end wants contents (inside (bad bad_code (end - length (code ∷ there))))
  of_no_block : (code : ℕ) (there : List ℕ) → BytesWanted wants contents (code ∷ there) → BeginsNoBlock code → WantFails end wants contents (missing_block (end - length (code ∷ there)))
  of_next_block : (n : ℕ) (header there : List ℕ) → ReferenceWanted wants contents (header ++ there) → 0 < n → IsBlockHeader n header → WantFails end wants contents (block_left (end - length there))
  of_block : (before later : List Want) (there : List ℕ) → wants ≡ before ++ wanted.Slot ∷ later → LeftInBlock before contents there → WantFails end wants contents (block_left (end - length there))
  of_last_block : (there : List ℕ) → LeftInBlock wants contents there → WantFails end wants contents (block_left (end - length there))

-- the magic number and the version, and then these bytes
abbrev pub IsHeaded : List ℕ → List ℕ → Type 0
IsHeaded bytes contents = bytes ≡ 0xAC ∷ 0xED ∷ 0x00 ∷ 0x05 ∷ contents

-- A byte differs from the magic number and the version, at this position.
pub record DiffersAt (end : ℕ) (bytes : List ℕ) (at : ℕ) : Type 0 where
  pub front : List ℕ
  pub here : List ℕ
  pub parts : bytes ≡ front ++ here
  pub differs : DiffersHere front here
  pub place : at ≡ end - length here

-- Which fault bytes show of these wants.
pub data WantShows (end : ℕ) (wants : List Want) (bytes : List ℕ) : WantFault → Type 0 where
  in_head : (at : ℕ) → DiffersAt end bytes at → WantShows end wants bytes (inside (bad bad_magic at))
  in_contents : (contents : List ℕ) (fault : WantFault) → IsHeaded bytes contents → WantFails end wants contents fault → WantShows end wants bytes fault

-- Which fault bytes show that are a stream to their end: of the magic number or the version, or of the items.
pub data Shows (end : ℕ) (bytes : List ℕ) (fault : Fault) : Type 0 where
  in_magic : (at : ℕ) → DiffersAt end bytes at → fault ≡ bad bad_magic at → Shows end bytes fault
  in_items : (contents : List ℕ) → IsHeaded bytes contents → InItems false (Reads LEVELS) [] (λ next there. FailsNext end fault (Fails end fault LEVELS) next there) whole.nothing_read contents → Shows end bytes fault

-- ---- laws

-- Reading answers a reference exactly as its bytes give it.
abbrev pub ReferencesAreRead : Type 0
ReferencesAreRead = (end left : ℕ) (p : SlotPlace) (unread : List ℕ) (now : Progress) (here : List ℕ) (y : Slot × Progress × List ℕ) → (slot_at end left p unread now here ≡ Ok y) ↔ Reads left p unread now here y

-- Behind wants that are spelled, bytes give a reference and these nodes more exactly where they spell them, within the limits.
abbrev pub ReferencesAreSpelled : Type 0
ReferencesAreSpelled = (wants : List Want) (answers : List Item) (before added : List Node) (front : List ℕ) (s : Slot) (here rest : List ℕ) → SpellsWants wants answers before front → length (before ++ added) ≤ NODES → AreBytes here
    → Reads LEVELS places.Reference [] (so_far before answers) here (s, so_far (before ++ added) answers, rest)
    ↔ (Spells (before ++ added) LEVELS [] (places.Reference, s) (length before) here rest (length (before ++ added)) × NumbersFit (before ++ added) × UnitsFit (before ++ added) × (parts_in (before ++ added) + refs_in answers ≤ PARTS))

-- Reading lists of wants answers a fault exactly where the bytes show it.
abbrev pub WantFaultsAreShown : Type 0
WantFaultsAreShown = (end : ℕ) (wants : List Want) (bytes : List ℕ) (fault : WantFault) → AreBytes bytes → fault ≢ inside short
    → (wants_at end wants bytes ≡ Err fault) ↔ WantShows end wants bytes fault

-- The same where bytes of block data in front were taken by themselves, as the head of a call is: reading the other wants behind them answers a fault exactly where
-- the bytes of both show it of all the wants.
abbrev pub HeadedFaultsAreShown : Type 0
HeadedFaultsAreShown = (end n : ℕ) (head bytes : List ℕ) (left : ℕ) (wants : List Want) (more : List ℕ) (fault : WantFault) → EndsInBlock n head bytes left → AreBytes more → fault ≢ inside short
    → (serve_to_close end wants (inside_block bytes left) more ≡ Err fault) ↔ WantFails end (wanted.Bytes n ∷ wants) (head ++ more) fault

-- A front of the bytes is a stream of what the wants ask for.
pub record Meets (wants : List Want) (bytes : List ℕ) : Type 0 where
  pub answers : List Item
  pub nodes : List Node
  pub front : List ℕ
  pub rest : List ℕ
  pub is : IsHeaded bytes (front ++ rest)
  pub spelled : SpellsWants wants answers nodes front

-- It wants more bytes exactly where no front of them is what the wants ask for, and they show no fault.
abbrev pub ShortWantsShowNone : Type 0
ShortWantsShowNone = (end : ℕ) (wants : List Want) (bytes : List ℕ) → AreBytes bytes
    → (wants_at end wants bytes ≡ Err (inside short)) ↔ (¬ Meets wants bytes × ((fault : WantFault) → fault ≢ inside short → WantShows end wants bytes fault → ⊥))

-- Bytes show one fault at most, and none where a front of them is what the wants ask for.
abbrev pub WantFaultIsOne : Type 0
WantFaultIsOne = (end : ℕ) (wants : List Want) (bytes : List ℕ) (fault : WantFault) → AreBytes bytes → fault ≢ inside short → WantShows end wants bytes fault
    → ((other : WantFault) → other ≢ inside short → WantShows end wants bytes other → other ≡ fault) × ¬ Meets wants bytes

-- The same of a stream that is read to its end: a fault is answered exactly where it is shown; and more bytes are wanted exactly where they are no stream and show none.
abbrev pub FaultsAreShown : Type 0
FaultsAreShown = (end : ℕ) (bytes : List ℕ) (fault : Fault) → fault ≢ short → (whole.stream_at end bytes ≡ Err fault) ↔ Shows end bytes fault

abbrev pub FaultIsOne : Type 0
FaultIsOne = (end : ℕ) (bytes : List ℕ) (fault other : Fault) → fault ≢ short → other ≢ short → Shows end bytes fault → Shows end bytes other → other ≡ fault

abbrev pub ShortShowsNone : Type 0
ShortShowsNone = (end : ℕ) (bytes : List ℕ) → AreBytes bytes
    → (whole.stream_at end bytes ≡ Err short) ↔ (((nodes : List Node) (contents : List Item) → IsStream nodes contents bytes → ⊥) × ((fault : Fault) → fault ≢ short → Shows end bytes fault → ⊥))
