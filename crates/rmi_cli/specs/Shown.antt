-- What `rmi show` takes and writes.
use Rattle.std.specs.Prelude.{◌≡◌, ℕ, ◌+◌, ◌<◌, ◌≤◌, ◌⊎◌, List, [], length, take, Option, Some, Ok, Err}
use Rattle.class_desc.specs.declared.slot.Item.{Item}
use Rattle.wire_io.specs.Wire.{Wires, with_front, with_end, NothingLeft}
use Rattle.wire_io.specs.Pulled.{PullState}
use Rattle.ser_values.specs.declared.limits.TheConstants.{MESSAGE_BYTES, PARTS}
use Rattle.ser_values.specs.declared.node.Node.{Node}
use Rattle.ser_values.specs.Shape.{refs_in, parts_in}
use Rattle.stream_grammar.specs.Spelled.{IsStream}
use Rattle.stream_grammar.specs.Reading.{stream_of, Fault, short, bad, too_many, too_deep}
use Rattle.ser_read.specs.declared.fault.StreamFault.{StreamFault}
use Rattle.ser_read.specs.declared.fault.StreamFault.TheVariants as faults
use Rattle.ser_read.specs.declared.fault.Large.TheVariants.{Bytes, Nodes, Depth}
use Rattle.ser_read.specs.Here.{Fails, stream_kind}
use Rattle.ser_read.specs.Whole.{stream_at, going_on, BreaksWhole}
use Rattle.graph_text.specs.GraphText.{graph_text}
use Rattle.rmi_cli.specs.Answer.{IsOutsideStatus}
use Rattle.rmi_cli.specs.Line.{status_of_run}
use Rattle.rmi_cli.specs.Told.{Failures, Ran, Reported, TellsExactly}
use Rattle.rmi_cli.specs.declared.end.RunEnd.{RunEnd}
use Rattle.rmi_cli.specs.declared.end.RunEnd.TheVariants.{Done, Usage, Answered, Talked, BadLine, Refused, TooLarge, NotShown, ListenFault, AcceptFault, ReadFault, WriteFault, OutOfMemory}

-- The whole input was taken, within the limit, and is a stream of these nodes and items: by the grammar, and read from left to right.
pub record TakesGraph (left_before left_after : Option (List ℕ)) (nodes : List Node) (items : List Item) : Type 0 where
  pub input : List ℕ
  pub left : left_before ≡ with_front input left_after
  pub nothing : NothingLeft left_after
  pub short : length input ≤ MESSAGE_BYTES
  pub stream : IsStream nodes items input
  pub parts : parts_in nodes + refs_in items ≤ PARTS
  pub read : stream_of input ≡ Ok (nodes, items)

-- Where the input is told, this is the fault at which reading it from left to right stops, or there are too many bytes.
pub record IsFaultOf (left : Option (List ℕ)) (fault : StreamFault) : Type 0 where
  pub within : (input : List ℕ) → left ≡ Some input → length input ≤ MESSAGE_BYTES → Fails (faults.Truncated (length input)) fault (stream_of input)
  pub past : (input : List ℕ) → left ≡ Some input → MESSAGE_BYTES < length input → Fails (faults.TooLarge Bytes MESSAGE_BYTES) fault (going_on (stream_at MESSAGE_BYTES (take MESSAGE_BYTES input)))

-- What was taken of the input, told or not, comes to this fault and goes no further.
pub record StopsAt (left_before left_after : Option (List ℕ)) (fault : StreamFault) : Type 0 where
  pub start : PullState
  pub stop : PullState
  pub before : start.left ≡ left_before
  pub after : stop.left ≡ left_after
  pub first : start.at ≡ 0
  pub limit : start.stop ≡ MESSAGE_BYTES
  pub is : BreaksWhole start stop fault stream_at

-- What each end says of the input, and what was written.
abbrev pub ShowEnds : Wires → Wires → RunEnd → Type 0
ShowEnds old new Done = (nodes : List Node) × (items : List Item) × TakesGraph old.left new.left nodes items × (new.held ≡ with_end old.held (graph_text nodes items))
ShowEnds old new Usage = ⊥
ShowEnds old new (Answered end) = ⊥
ShowEnds old new (Talked end) = ⊥
ShowEnds old new (BadLine line) = ⊥
ShowEnds old new Refused = ⊥
ShowEnds old new (TooLarge limit) = ⊥
ShowEnds old new (NotShown fault) = IsFaultOf old.left fault × StopsAt old.left new.left fault × (new.held ≡ old.held)
ShowEnds old new ListenFault = ⊥
ShowEnds old new AcceptFault = ⊥
ShowEnds old new ReadFault = ⊥
ShowEnds old new WriteFault =
    (nodes : List Node) × (items : List Item) × (sent : ℕ) × TakesGraph old.left new.left nodes items
    × (sent < length (graph_text nodes items)) × (new.held ≡ with_end old.held (take sent (graph_text nodes items)))
ShowEnds old new OutOfMemory = (nodes : List Node) × (items : List Item) × TakesGraph old.left new.left nodes items × (new.held ≡ old.held)

-- The input was shown to an end, which is told.
abbrev pub ShowsInput : Wires → Wires → Failures → Failures → Reported → Type 0
ShowsInput old new = Ran (ShowEnds old new)

-- The fault that is told where reading stops at one; `after` is the fault of who wants one byte more.
abbrev pub told_fault : StreamFault → Fault → StreamFault
told_fault after short = after
told_fault after (bad kind at) = faults.Bad (stream_kind kind) at
told_fault after (too_many at) = faults.TooLarge Nodes at
told_fault after (too_deep at) = faults.TooLarge Depth at

-- Where the input is told: if it is a stream within the limit, all of it was taken, and the text of its graph was written; if reading it, or
-- past the limit as much of it as a stream may have, stops at a fault, that fault is the end, and nothing was written. Unless the outside
-- failed, by the status. `Ends` says that the run ended so.
pub record ExactlyShown (Ends : RunEnd → Type 0) (status : ℕ) (old new : Wires) : Type 0 where
  pub stream : (nodes : List Node) (items : List Item) (input : List ℕ) → old.left ≡ Some input → length input ≤ MESSAGE_BYTES → IsStream nodes items input
      → (Ends Done × (new.left ≡ Some []) × (new.held ≡ with_end old.held (graph_text nodes items))) ⊎ IsOutsideStatus status
  pub within : (input : List ℕ) (fault : Fault) → old.left ≡ Some input → length input ≤ MESSAGE_BYTES → stream_of input ≡ Err fault
      → (Ends (NotShown (told_fault (faults.Truncated (length input)) fault)) × (new.held ≡ old.held)) ⊎ IsOutsideStatus status
  pub past : (input : List ℕ) (fault : Fault) → old.left ≡ Some input → MESSAGE_BYTES < length input
      → going_on (stream_at MESSAGE_BYTES (take MESSAGE_BYTES input)) ≡ Err fault
      → (Ends (NotShown (told_fault (faults.TooLarge Bytes MESSAGE_BYTES) fault)) × (new.held ≡ old.held)) ⊎ IsOutsideStatus status

-- The end is this one.
abbrev pub EndsExactly : Wires → Wires → RunEnd → Type 0
EndsExactly old new result = ExactlyShown (λ end. result ≡ end) (status_of_run result) old new

-- The end is told.
abbrev pub ShowsExactly : Wires → Wires → Reported → Type 0
ShowsExactly old new told = ExactlyShown (TellsExactly told) told.status old new
