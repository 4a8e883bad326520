-- Reading a stream want by want: bytes of block data and references, as its reader asks for them.
use Rattle.wire_io.specs.Wire.{ReadHalf}
use Rattle.std.specs.Prelude.{◌≡◌, ℕ, zero, suc, ◌-◌, ◌&&◌, nat_eq, nat_le, List, [], ◌∷◌, ◌++◌, length, Option, Result, Ok, Err, IfOk, IfErr, if◌then◌else◌}
use Rattle.class_desc.specs.declared.slot.Slot.{Slot}
use Rattle.class_desc.specs.declared.slot.Item.{Item}
use Rattle.class_desc.specs.declared.slot.Item.TheVariants as items
use Rattle.ser_values.specs.declared.node.Node.{Node}
use Rattle.ser_values.specs.declared.node.SlotPlace.TheVariants as places
use Rattle.ser_values.specs.declared.limits.TheConstants.{LEVELS}
use Rattle.stream_grammar.specs.Reading.{◌>>=◌, Fault, short, bad, bad_code, reset, inner_exception, Progress, counting, byte_at, slot_at, coded, magic_at}
use Rattle.wire_io.specs.Pulled.{PullState, pull_state}
use Rattle.wire_io.specs.declared.pull.Pull.{Pull}
use Rattle.ser_read.specs.declared.fault.StreamKind.{StreamKind}
use Rattle.ser_read.specs.declared.fault.StreamKind.TheVariants as kinds
use Rattle.ser_read.specs.declared.fault.StreamFault.{StreamFault}
use Rattle.ser_read.specs.declared.block.Head.{Head}
use Rattle.ser_read.specs.declared.block.Head.TheVariants.{Block, Code}
use Rattle.ser_read.specs.declared.serving.Want.{Want}
use Rattle.ser_read.specs.declared.serving.Want.TheVariants as wanted
use Rattle.ser_read.specs.Here.{Reads, kind_of, FailsBy, GivesBy, GivesToldBy, BreaksBy}
use Rattle.stream_grammar.specs.Faults.{AreBytes}
use Rattle.ser_read.specs.Heads.{head_at}
use Rattle.ser_read.specs.Named.{add_bytes}

-- ---- faults

-- A fault of what is read inside; another code where block data is wanted; or block data that is left where a reference or the end is wanted.
pub data WantFault : Type 0 where
  inside : Fault → WantFault
  missing_block : ℕ → WantFault
  block_left : ℕ → WantFault

infixl 10 ◌▸◌
abbrev pub ◌▸◌ : {A B : Type 0} → Result A WantFault → (A → Result B WantFault) → Result B WantFault
(Ok x) ▸ f = f x
(Err e) ▸ f = Err e

-- what is read inside
abbrev pub lift_fault : {A : Type 0} → Result A Fault → Result A WantFault
lift_fault (Ok x) = Ok x
lift_fault (Err e) = Err (inside e)

-- ---- wants

-- How far a reader has come: what it has of the nodes, the items so far, and how many bytes of the present block are left.
pub record Stand : Type 0 where
  pub progress : Progress
  pub items : List Item
  pub block : ℕ

abbrev pub nothing_read : Stand
nothing_read = record { progress = record { nodes = []; parts = 0 }; items = []; block = 0 }

-- why a code at this position does not stand where block data is wanted
unfoldable pub no_block : ℕ → ℕ → WantFault
no_block code at =
    if nat_eq code 0x79 then inside (bad reset at) else
    (if nat_eq code 0x7B then inside (bad inner_exception at) else
    (if nat_le 0x70 code && nat_le code 0x7E then missing_block at else inside (bad bad_code at)))

abbrev pub only_block : Head × List ℕ → Result (ℕ × List ℕ) WantFault
only_block (Block n, bs) = Ok (n, bs)
only_block (Code code at, bs) = Err (no_block code at)

-- how many bytes of a block are next, of the present block or a later one
unfoldable pub opened_at : ℕ → ℕ → List ℕ → Result (ℕ × List ℕ) WantFault
opened_at end block bs = if nat_eq block 0 then (lift_fault (head_at end bs) ▸ only_block) else Ok (block, bs)

-- so many bytes of block data, one after the other
unfoldable pub run_at : ℕ → ℕ → ℕ → List ℕ → Result (List ℕ × ℕ × List ℕ) WantFault
run_at end zero block bs = Ok ([], block, bs)
run_at end (suc n) block bs = opened_at end block bs ▸ λ o. lift_fault (byte_at o.1) ▸ λ b. run_at end n (o.0 - 1) b.1 ▸ λ r. Ok (b.0 ∷ r.0, r.1, r.2)

-- so many bytes are wanted
unfoldable pub bytes_at : ℕ → ℕ → Stand → List ℕ → Result (List ℕ × Stand × List ℕ) WantFault
bytes_at end n s bs = run_at end n s.block bs ▸ λ r. Ok (r.0, record { progress = s.progress; items = add_bytes s.items r.0; block = r.1 }, r.2)

-- a reference behind its code, which stands at this position; it is a part, and is counted once it was read
abbrev pub counted_at : ℕ → ℕ → ℕ → Progress → List ℕ → Result (Slot × Progress × List ℕ) Fault
counted_at end at code now bs = coded end LEVELS (slot_at end (LEVELS - 1)) places.Reference [] at code now bs >>= λ s. counting 1 at s.1 (λ next. Ok (s.0, next, s.2))

abbrev pub only_slot : ℕ → Progress → Head × List ℕ → Result (Slot × Progress × List ℕ) WantFault
only_slot end now (Block n, bs) = Err (block_left (end - length bs))
only_slot end now (Code code at, bs) = lift_fault (counted_at end at code now bs)

unfoldable pub reference_at : ℕ → Progress → List ℕ → Result (Slot × Progress × List ℕ) WantFault
reference_at end now bs = lift_fault (head_at end bs) ▸ only_slot end now

-- a reference is wanted
unfoldable pub slot_next : ℕ → Stand → List ℕ → Result (Slot × Stand × List ℕ) WantFault
slot_next end s bs =
    if nat_eq s.block 0 then (reference_at end s.progress bs ▸ λ x. Ok (x.0, record { progress = x.1; items = s.items ++ items.Ref x.0 ∷ []; block = 0 }, x.2))
    else Err (block_left (end - length bs))

-- the end is wanted, at this position
unfoldable pub close_at : ℕ → Stand → Result (List Node × List Item) WantFault
close_at at s = if nat_eq s.block 0 then Ok (s.progress.nodes, s.items) else Err (block_left at)

-- ---- wants that were served

unfoldable pub want_at : ℕ → Want → Stand → List ℕ → Result (Item × Stand × List ℕ) WantFault
want_at end (wanted.Bytes n) s bs = bytes_at end n s bs ▸ λ x. Ok (items.Bytes x.0, x.1, x.2)
want_at end wanted.Slot s bs = slot_next end s bs ▸ λ x. Ok (items.Ref x.0, x.1, x.2)

-- A want, the position at which its bytes end, those bytes, and what they gave.
pub record ServedWant : Type 0 where
  pub want : Want
  pub end : ℕ
  pub bytes : List ℕ
  pub answer : Item

-- Wants that were served, the last one first, lead to this stand.
abbrev pub HaveLedTo : List ServedWant → Stand → Type 0
HaveLedTo [] s = s ≡ nothing_read
HaveLedTo (w ∷ earlier) s = (before : Stand) × AreBytes w.bytes × (want_at w.end w.want before w.bytes ≡ Ok (w.answer, s, [])) × HaveLedTo earlier before

abbrev pub IsReached : Stand → Type 0
IsReached s = (served : List ServedWant) × HaveLedTo served s

-- A reader: how far it has come, and why it was refused. Then how far it has come says nothing.
pub record ReaderState : Type 0 where
  pub stand : Stand
  pub refused : Option StreamFault

-- ---- what is answered

-- the fault of a kind at a position
abbrev pub fault_at : StreamKind → ℕ → WantFault
fault_at kinds.MissingBlock at = missing_block at
fault_at kinds.BlockLeft at = block_left at
fault_at kind at = inside (bad (kind_of kind) at)

abbrev pub WantIsBad : {Y : Type 0} → Result Y WantFault → StreamKind → ℕ → Type 0
WantIsBad read kind at = read ≡ Err (fault_at kind at)

-- Reading gives this fault.
abbrev pub WantFails : {Y : Type 0} → StreamFault → StreamFault → Result Y WantFault → Type 0
WantFails after e read = FailsBy inside WantIsBad after e read

-- What a call answers, seen by `view`, is what reading gives.
abbrev pub WantGives : {X Y : Type 0} → StreamFault → (X → Y) → Result X StreamFault → Result Y WantFault → Type 0
WantGives after view result read = GivesBy (WantFails after) view result read

-- Where the bytes are told, a call answers what reading gives of those to come.
abbrev pub WantGivesTold : {S X Y : Type 0} → (S → ReadHalf) → Pull S → Pull S → Result X StreamFault → (ℕ → List ℕ → Result Y WantFault) → (X → List ℕ → Y) → Type 0
WantGivesTold half old new result read out = GivesToldBy WantFails half old new result read out

-- What was taken where a call answers this fault, and why reading ends there.
pub record WantBreaks {Y : Type 0} (old new : PullState) (fault : StreamFault) (read : ℕ → List ℕ → Result Y WantFault) : Type 0 where
  pub is : BreaksBy inside WantIsBad old new fault read

-- Whether the bytes are told or not, what a call answers is read from those that it took.
abbrev pub WantReadsTaken : {S X Y : Type 0} → (S → ReadHalf) → Pull S → Pull S → Result X StreamFault → (ℕ → List ℕ → Result Y WantFault) → (X → List ℕ → Y) → Type 0
WantReadsTaken half old new result read out = IfOk result (λ x. Reads (inside short) (pull_state half old) (pull_state half new) read (out x))

-- Whether the bytes are told or not, a fault that a call answers is what the bytes that it took come to.
abbrev pub WantStopsTaken : {S X Y : Type 0} → (S → ReadHalf) → Pull S → Pull S → Result X StreamFault → (ℕ → List ℕ → Result Y WantFault) → Type 0
WantStopsTaken half old new result read = IfErr result (λ e. WantBreaks (pull_state half old) (pull_state half new) e read)

-- ---- lists of wants

-- one after the other: what they gave, how far the reader has come then, and the bytes after them
unfoldable pub serve : ℕ → List Want → Stand → List ℕ → Result (List Item × Stand × List ℕ) WantFault
serve end [] s bs = Ok ([], s, bs)
serve end (w ∷ ws) s bs = want_at end w s bs ▸ λ x. serve end ws x.1 x.2 ▸ λ xs. Ok (x.0 ∷ xs.0, xs.1, xs.2)

-- and then the end: what they gave, the nodes and the items, and the bytes after them
unfoldable pub serve_to_close : ℕ → List Want → Stand → List ℕ → Result (List Item × List Node × List Item × List ℕ) WantFault
serve_to_close end ws s bs = serve end ws s bs ▸ λ x. close_at (end - length x.2) x.1 ▸ λ g. Ok (x.0, g.0, g.1, x.2)

-- the magic number and the version in front
unfoldable pub wants_at : ℕ → List Want → List ℕ → Result (List Item × List Node × List Item × List ℕ) WantFault
wants_at end ws bs = lift_fault (magic_at end (0xAC ∷ 0xED ∷ 0x00 ∷ 0x05 ∷ []) bs) ▸ serve_to_close end ws nothing_read
