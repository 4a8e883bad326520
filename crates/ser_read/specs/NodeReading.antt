-- What each function that reads nodes does.
use Rattle.wire_io.specs.Wire.{ReadHalf}
use Rattle.std.specs.Prelude.{◌≡◌, ◌≢◌, ℕ, ◌≤◌, ◌<◌, List, length, Option, Result, IfOk, OnOk}
use Rattle.class_desc.specs.declared.slot.Slot.{Slot}
use Rattle.class_desc.specs.declared.slot.Slot.TheVariants.{Null}
use Rattle.wire_io.specs.declared.pull.Pull.{Pull}
use Rattle.ser_values.specs.declared.limits.TheConstants.{NODES}
use Rattle.ser_values.specs.declared.node.SlotPlace.{SlotPlace}
use Rattle.ser_values.specs.declared.node.SlotPlace.TheVariants as places
use Rattle.stream_grammar.specs.Reading.{Step}
use Rattle.ser_read.specs.declared.fault.StreamFault.{StreamFault}
use Rattle.ser_read.specs.declared.table.Table.{Table}
use Rattle.ser_read.specs.Tables.{now_of}
use Rattle.ser_read.specs.Here.{ReadsTaken, StopsTaken}

-- ---- what is known of an answer besides

-- nothing
abbrev pub Any : {X : Type 0} → Result X StreamFault → Type 0
Any result = Unit {0}

-- It is a node, and not null.
abbrev pub GivesNode : Result Slot StreamFault → Type 0
GivesNode result = IfOk result (λ slot. slot ≢ Null)

-- In the place of a text it is a node.
abbrev pub GivesText : SlotPlace → Result Slot StreamFault → Type 0
GivesText place result = place ≡ places.Text → GivesNode result

-- One node more has room.
abbrev pub LeavesRoom : {X : Type 0} → Table → Result X StreamFault → Type 0
LeavesRoom new result = OnOk result (length new.nodes.items < NODES)

-- ---- a call

-- A call answers what `read` says of the bytes that it takes; what it reads joins the nodes of the table.
pub record ReadsNodes {S X : Type 0} (half : S → ReadHalf) (p q : Pull S) (old new : Table) (result : Result X StreamFault) (Fits : Result X StreamFault → Type 0) (read : ℕ → Step X) : Type 0 where
  -- The source is the one that was lent.
  pub lent : q.source.ghost_name ≡ p.source.ghost_name
  -- No node is lost, also where it fails.
  pub grows : length old.nodes.items ≤ length new.nodes.items
  -- What it began to read of descriptions is read.
  pub unread : OnOk result (new.unread.items ≡ old.unread.items)
  -- what is known of the answer besides
  pub some : Fits result
  -- Whatever comes after the bytes taken, they are read as this answer and these nodes, and none of them could be left out.
  pub reads : ReadsTaken half p q result (λ end. read end (now_of old)) (λ x rest. (x, now_of new, rest))
  -- A fault is what the bytes taken come to.
  pub stops : StopsTaken half p q result (λ end. read end (now_of old))
