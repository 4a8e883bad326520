-- Reading a stream to the end of the input.
use Rattle.std.specs.Prelude.{◌≡◌, ℕ, ◌+◌, ◌-◌, ◌≤◌, false, List, [], ◌∷◌, length, Result, Ok, Err}
use Rattle.class_desc.specs.declared.slot.Item.{Item}
use Rattle.wire_io.specs.Wire.{NothingLeft, Rose}
use Rattle.wire_io.specs.Pulled.{PullState, Takes, Passes}
use Rattle.ser_values.specs.declared.graph.Graph.{Graph}
use Rattle.ser_values.specs.declared.node.Node.{Node}
use Rattle.ser_values.specs.declared.node.SlotPlace.TheVariants as places
use Rattle.ser_values.specs.declared.limits.TheConstants.{LEVELS, PARTS}
use Rattle.ser_values.specs.Shape.{refs_in, parts_in}
use Rattle.stream_grammar.specs.Spelled.{IsStream}
use Rattle.stream_grammar.specs.Reading.{◌>>=◌, Fault, short, Progress, magic_at, items_at, slot_at}
use Rattle.stream_grammar.specs.Faults.{AreBytes, FaultStands}
use Rattle.ser_read.specs.declared.fault.StreamFault.{StreamFault}
use Rattle.ser_read.specs.declared.fault.StreamFault.TheVariants.{Truncated, TooLarge, ReadFault}
use Rattle.ser_read.specs.declared.fault.Large.TheVariants.{Bytes}
use Rattle.ser_read.specs.Here.{IsOutside, Breaks}

-- nothing was read yet
abbrev pub nothing_read : Progress
nothing_read = record { nodes = []; parts = 0 }

-- The nodes and items of a stream of bytes that end at the position `end`, or the first fault.
unfoldable pub stream_at : ℕ → List ℕ → Result (List Node × List Item) Fault
stream_at end bytes =
    magic_at end (0xAC ∷ 0xED ∷ 0x00 ∷ 0x05 ∷ []) bytes >>= λ bs.
    items_at end (slot_at end LEVELS places.Reference []) false nothing_read bs >>= λ x.
    Ok (x.1.nodes, x.0)

-- Where reading bytes that end at a position answers a fault, it stands in them.
abbrev pub FaultsStandInBytes : Type 0
FaultsStandInBytes = (end : ℕ) (bytes : List ℕ) (fault : Fault) → length bytes ≤ end → stream_at end bytes ≡ Err fault → FaultStands (end - length bytes) bytes fault

-- what is read of bytes behind which the input goes on: they can't be all
abbrev pub going_on : {Y : Type 0} → Result Y Fault → Result Y Fault
going_on (Ok x) = Err short
going_on (Err f) = Err f

-- What is read up to the end; `after` is the fault of who wants one byte more.
abbrev pub to_end : {Y : Type 0} → StreamFault → Result Y Fault → Result Y Fault
to_end (Truncated at) read = read
to_end after read = going_on read

-- The bytes to the end of the input were taken, and reading gives `y` of them.
pub record ReadsAll {Y : Type 0} (old new : PullState) (read : ℕ → List ℕ → Result Y Fault) (y : Y) : Type 0 where
  pub taken : List ℕ
  pub bytes : AreBytes taken
  pub takes : Takes old new taken
  pub nothing : NothingLeft new.left
  pub is : read new.at taken ≡ Ok y

-- What was taken where a fault is answered and what is read goes on to the end of the input: behind the bytes that could be all, the input goes
-- on past the limit.
pub record BreaksWhole {Y : Type 0} (old new : PullState) (fault : StreamFault) (read : ℕ → List ℕ → Result Y Fault) : Type 0 where
  pub is : Breaks old new fault (λ end bs. to_end fault (read end bs))

-- No code came here, and the input does not end here.
abbrev pub NoCode : PullState → PullState → StreamFault → Type 0
NoCode old new (TooLarge Bytes at) = (at ≡ old.at) × Passes old new
NoCode old new ReadFault = Takes old new [] × Rose old.faults new.faults
NoCode old new _ = ⊥

-- The bytes to the end of the input were taken, and they are a stream of these nodes and items, within the limit of parts.
pub record TakesStream (old new : PullState) (nodes : List Node) (items : List Item) : Type 0 where
  pub taken : List ℕ
  pub takes : Takes old new taken
  pub nothing : NothingLeft new.left
  pub read : stream_at new.at taken ≡ Ok (nodes, items)
  pub stream : IsStream nodes items taken
  pub parts : parts_in nodes + refs_in items ≤ PARTS

-- a graph of these nodes and items, unless the outside failed
abbrev pub AnswersGraph : List Node → List Item → Result Graph StreamFault → Type 0
AnswersGraph nodes items (Ok graph) = (graph.nodes ≡ nodes) × (graph.items ≡ items)
AnswersGraph nodes items (Err e) = IsOutside e
