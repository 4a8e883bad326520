-- The table of exchanges: what each message takes, does, draws and writes, and how a row is cut.
use Rattle.std.specs.Prelude.{◌≡◌, true, false, ℕ, ◌+◌, ◌≤◌, List, [], ◌∷◌, ◌++◌, ◌⊎◌, length, Option, None, Result, Ok, Err}
use Rattle.std.specs.List.{flat_map}
use Rattle.object_ids.specs.declared.ids.ObjId.{ObjId}
use Rattle.history.specs.declared.asks.Ask.TheVariants.{Ack}
use Rattle.history.specs.declared.replies.Reply.TheVariants.{Done}
use Rattle.history.specs.declared.replies.Turn.{Turn}
use Rattle.history.specs.declared.replies.Refused.{Refused}
use Rattle.history.specs.declared.replies.Refused.TheVariants.{HistoryFull}
use Rattle.space.specs.declared.asked.Asked.{Asked}
use Rattle.space.specs.declared.asked.AskedEnd.{AskedEnd}
use Rattle.space.specs.declared.asked.AskedEnd.TheVariants.{Abandoned}
use Rattle.ports.specs.Ports.{abandoned_at, Shows}
use Rattle.object_ids.specs.declared.ids.Uid.{Uid}
use Rattle.object_ids.specs.Bytes.{FitsUid}
use Rattle.object_ids.specs.Draw.{uid_drawn}
use Rattle.ser_values.specs.declared.limits.TheConstants.{MESSAGE_BYTES}
use Rattle.jrmp_frames.specs.declared.head.CallHead.{CallHead}
use Rattle.jrmp_frames.specs.declared.code.Code.TheVariants.{Ping, Call}
use Rattle.jrmp_frames.specs.Frames.{code_byte, ping_ack, dgc_ack}
use Rattle.call_dispatch.specs.declared.outcome.Outcome.TheVariants.{OutOfMemory}
use Rattle.call_dispatch.specs.declared.end.ConnEnd.{ConnEnd}
use Rattle.system_objects.specs.Terms.{Terms}
use Rattle.call_dispatch.specs.Acts.{Act, asks, lost, called, invokes, unreferenced, entries, acts_of}
use Rattle.call_dispatch.specs.Served.{FitsHead, AtHead, served_acts, served_written, served_closes, IsServed}
use Rattle.call_dispatch.specs.ConnectionState.{Transcript}
use Rattle.call_dispatch.specs.Systems.{System, system_acts, system_draws, system_written, system_closes, IsSystem}
use Rattle.system_ids.specs.SystemIds.{is_system}

-- a row of the table: the bytes of the message, what is done at it in order, how many identifiers are drawn, the bytes of
-- the answer, and the end of the connection, where it ends with this answer
pub record Row : Type 0 where
  pub message : List ℕ
  pub acts : List Act
  pub draws : ℕ
  pub written : List ℕ
  pub closes : Option ConnEnd

-- an acknowledgement: the identifier that it names, and the moment and the answer of its turn
pub record Acknowledgement : Type 0 where
  pub uid : Uid
  pub moment : ℕ
  pub answer : Result Turn Refused

-- a Call that is answered: the bytes behind its code, its head, and the identifier of its Return
pub record AnsweredCall : Type 0 where
  pub bytes : List ℕ
  pub head : CallHead
  pub uid : Uid

-- an exchange: one message of the client, and what is done at it. A Call is served, or it is a call of the registry or the collector.
pub data Exchange : Type 0 where
  ping : Exchange
  acknowledged : Acknowledgement → Exchange
  served : AnsweredCall → AtHead → Exchange
  system : AnsweredCall → System → Exchange

-- The row of each exchange.
--   ping: a Ping is answered by a PingAck, and nothing is done.
--   acknowledged: an acknowledgement is noted in one turn, and nothing is written.
--   served: a Call of an exported object begins, invokes the worker and finishes in turns. One identifier is drawn, for its Return.
--   system: a Call of the registry or the collector takes one turn, or none where it is rejected. An identifier is drawn for its Return, and
--   another for a client that has none.
abbrev pub row_of : Exchange → Row
row_of ping = record { message = code_byte Ping ∷ []; acts = []; draws = 0; written = ping_ack; closes = None }
row_of (acknowledged ack) = record { message = dgc_ack ack.uid; acts = acts_of ack.moment (Ack ack.uid) ack.answer; draws = 0; written = []; closes = None }
row_of (served call s) =
    record { message = code_byte Call ∷ call.bytes; acts = served_acts call.head call.uid s; draws = 1; written = served_written call.uid s; closes = served_closes call.head s }
row_of (system call s) =
    record { message = code_byte Call ∷ call.bytes; acts = system_acts s; draws = system_draws s; written = system_written call.uid s; closes = system_closes call.head s }

-- An acknowledgement was noted, or passed over where the history was full.
abbrev pub IsNoted : Result Turn Refused → Type 0
IsNoted (Ok turn) = turn.reply ≡ Done
IsNoted (Err HistoryFull) = Unit {0}
IsNoted (Err _) = ⊥

-- Where so many identifiers were drawn, it may come so: what it holds of the outside's answers fits its message, which has not too many bytes.
abbrev pub IsExchange : Terms → ℕ → Exchange → Type 0
IsExchange terms drawn ping = Unit {0}
IsExchange terms drawn (acknowledged ack) = FitsUid ack.uid × IsNoted ack.answer
IsExchange terms drawn (served call s) =
    (is_system call.head.id ≡ false) × (call.uid ≡ uid_drawn terms.unique terms.time drawn) × FitsHead call.head × (1 + length call.bytes ≤ MESSAGE_BYTES) × IsServed terms call.head call.bytes call.uid s
IsExchange terms drawn (system call s) = (is_system call.head.id ≡ true) × FitsHead call.head × (1 + length call.bytes ≤ MESSAGE_BYTES) × IsSystem terms drawn call.head call.bytes call.uid s

abbrev pub taken_by : Exchange → List ℕ
taken_by e = (row_of e).message

abbrev pub acts_by : Exchange → List Act
acts_by e = (row_of e).acts

abbrev pub draws_by : Exchange → ℕ
draws_by e = (row_of e).draws

abbrev pub written_by : Exchange → List ℕ
written_by e = (row_of e).written

-- how many identifiers some exchanges draw
abbrev pub draws_in : List Exchange → ℕ
draws_in [] = 0
draws_in (e ∷ more) = draws_by e + draws_in more

-- what an exchange takes, does, draws and writes
abbrev pub transcript_by : Exchange → Transcript
transcript_by e = record { taken = taken_by e; acts = acts_by e; draws = draws_by e; written = written_by e }

-- The connection goes on after it.
abbrev pub IsOpen : Exchange → Type 0
IsOpen e = (row_of e).closes ≡ None

-- the end with which the last of some exchanges closes the connection, where it does
abbrev pub closed_by : List Exchange → Option ConnEnd
closed_by [] = None
closed_by (e ∷ []) = (row_of e).closes
closed_by (e ∷ f ∷ more) = closed_by (f ∷ more)

-- After these exchanges the connection goes on.
abbrev pub StaysOpen : List Exchange → Type 0
StaysOpen exchanges = closed_by exchanges ≡ None

-- Where so many identifiers were drawn, these exchanges may come one after the other, each where it stands, and none after
-- one that closes the connection.
abbrev pub IsChain : Terms → ℕ → List Exchange → Type 0
IsChain terms drawn [] = Unit {0}
IsChain terms drawn (e ∷ []) = IsExchange terms drawn e
IsChain terms drawn (e ∷ f ∷ more) = IsExchange terms drawn e × IsOpen e × IsChain terms (drawn + draws_by e) (f ∷ more)

-- ---- cuts

-- what a turn leaves for which there was no memory: its moment. Ending a call without an answer takes none.
abbrev pub lost_at : ℕ → AskedEnd → List Act
lost_at moment (Abandoned place) = []
lost_at moment _ = lost moment ∷ []

-- what an act leaves for which there was no memory
abbrev pub acts_at_failure : Act → List Act
acts_at_failure (asks entry) = lost_at entry.moment entry.end
acts_at_failure (lost moment) = []
acts_at_failure (called (invokes call outcome)) = called (invokes call OutOfMemory) ∷ []
acts_at_failure (called (unreferenced object)) = []

-- There was no memory for the next act, or another thing ended the row before it. Nothing ends it before the worker is told of an object: that
-- takes no memory.
abbrev pub IsFailed : List Act → List Act → Type 0
IsFailed [] fails = fails ≡ []
IsFailed (called (unreferenced object) ∷ later) fails = ⊥
IsFailed (act ∷ later) fails = (fails ≡ []) ⊎ (fails ≡ acts_at_failure act)

-- A call that these entries show running is given up by an Abandon, and nothing else is done.
abbrev pub IsGivenUp : List Asked → List Act → Type 0
IsGivenUp shown [] = (o : ObjId) → Shows shown o → ⊥
IsGivenUp shown (asks entry ∷ []) = (o : ObjId) × (moment place : ℕ) × Shows shown o × (entry ≡ abandoned_at moment o place)
IsGivenUp shown _ = ⊥

-- These acts are those of a row, or of its rest after these entries, that was cut: its acts up to the cut, what the next one leaves where there
-- was no memory for it, and an Abandon where a call runs then.
pub record IsCut (shown : List Asked) (row acts : List Act) : Type 0 where
  pub front : List Act
  pub later : List Act
  pub fails : List Act
  pub given_up : List Act
  pub whole : row ≡ front ++ later
  pub failing : IsFailed later fails
  pub giving_up : IsGivenUp (shown ++ flat_map entries front) given_up
  pub is : acts ≡ front ++ fails ++ given_up
