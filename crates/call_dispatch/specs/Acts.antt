-- What a connection does beside taking and writing bytes: turns of the space and calls of the worker, in their order.
use Rattle.std.specs.Prelude.{◌≡◌, ℕ, ◌+◌, ℤ, List, [], ◌∷◌, ◌++◌, length, map, Option, None, Some, Result, Ok, Err}
use Rattle.std.specs.List.{flat_map}
use Rattle.wire_io.specs.Wire.{Gave}
use Rattle.object_ids.specs.declared.ids.ObjId.{ObjId}
use Rattle.history.specs.declared.asks.Ask.{Ask}
use Rattle.history.specs.declared.replies.Turn.{Turn}
use Rattle.history.specs.declared.replies.Refused.{Refused}
use Rattle.history.specs.declared.replies.Refused.TheVariants.{HistoryFull, Full, OutOfMemory}
use Rattle.space.specs.declared.asked.Asked.{Asked}
use Rattle.space.specs.Entries.{entry_of}
use Rattle.ports.specs.Ports.{abandoned_at}
use Rattle.call_dispatch.specs.declared.outcome.Invocation.{Invocation}
use Rattle.call_dispatch.specs.declared.outcome.Outcome.{Outcome}

-- a call of a worker: an invocation with its outcome, or an object of which it was told that nobody refers to it
pub data Call : Type 0 where
  invokes : Invocation → Outcome → Call
  unreferenced : ObjId → Call

-- a turn with its entry; a turn for which there was no memory, at its moment; a call of the worker
pub data Act : Type 0 where
  asks : Asked → Act
  lost : ℕ → Act
  called : Call → Act

abbrev pub entries : Act → List Asked
entries (asks entry) = entry ∷ []
entries _ = []

abbrev pub moments : Act → List ℕ
moments (asks entry) = entry.moment ∷ []
moments (lost moment) = moment ∷ []
moments (called call) = []

abbrev pub calls : Act → List Call
calls (called call) = call ∷ []
calls _ = []

abbrev pub invocations : Call → List Invocation
invocations (invokes call outcome) = call ∷ []
invocations (unreferenced object) = []

-- what a worker keeps: numbers of objects
abbrev pub States : Type 0
States = List (ObjId × ℤ)

-- ---- turns

-- the worker is told of each of these objects
abbrev pub tells_of : List ObjId → List Act
tells_of gone = map (λ object. called (unreferenced object)) gone

-- What is done at a turn that is answered so: its entry, and then the worker is told of what is gone; or there was no memory for it.
abbrev pub acts_of : ℕ → Ask → Result Turn Refused → List Act
acts_of moment ask (Ok turn) = asks (entry_of moment ask (Ok turn)) ∷ tells_of turn.gone
acts_of moment ask (Err HistoryFull) = asks (entry_of moment ask (Err HistoryFull)) ∷ []
acts_of moment ask (Err (Full kind)) = asks (entry_of moment ask (Err (Full kind))) ∷ []
acts_of moment ask (Err OutOfMemory) = lost moment ∷ []

-- A call of an object is ended without an answer, at this place of the history.
abbrev pub abandon_act : ℕ → ObjId → ℕ → Act
abandon_act moment object place = asks (abandoned_at moment object place)

-- ---- what is told

-- What a worker tells grows by these calls, or it tells nothing more.
abbrev pub TellsMore : Option (List Call) → List Call → Option (List Call) → Type 0
TellsMore before more None = Unit {0}
TellsMore None more (Some after) = ⊥
TellsMore (Some before) more (Some after) = after ≡ before ++ more

-- These calls lead from a state to a state, one after the other.
abbrev pub Moves : (States → Call → States → Type 0) → States → List Call → States → Type 0
Moves moves before [] after = after ≡ before
Moves moves before (call ∷ more) after = (mid : States) × moves before call mid × Moves moves mid more after

-- The same where the states are told.
abbrev pub LeadsStates : (States → Call → States → Type 0) → Option States → List Call → Option States → Type 0
LeadsStates moves before more None = Unit {0}
LeadsStates moves None more (Some after) = ⊥
LeadsStates moves (Some before) more (Some after) = Moves moves before more after

-- Each invocation has an outcome that it may have.
abbrev pub MayAll : (Invocation → Outcome → Type 0) → List Call → Type 0
MayAll may [] = Unit {0}
MayAll may (invokes call outcome ∷ more) = may call outcome × MayAll may more
MayAll may (unreferenced object ∷ more) = MayAll may more

-- what a worker shows: how many invocations it was given; its calls, in their order, where it tells them, which it may cease to do; the
-- numbers that it keeps of objects, where it tells them; and the number of the connection that it was made for, which stays
pub record WorkerState : Type 0 where
  pub calls : ℕ
  pub seen : Option (List Call)
  pub state : Option States
  pub number : ℕ

-- what is shown beside the bytes and the draw: a port's entries, a clock's moments, and a worker's count, calls, state and number
pub record Observed : Type 0 where
  pub asked : List Asked
  pub given : Option (List ℕ)
  pub invoked : ℕ
  pub seen : Option (List Call)
  pub state : Option States
  pub number : ℕ

-- the entries of a port, the moments of a clock and what a worker shows
abbrev pub observed : List Asked → Option (List ℕ) → WorkerState → Observed
observed asked given worker = record { asked = asked; given = given; invoked = worker.calls; seen = worker.seen; state = worker.state; number = worker.number }

-- These acts lead from what was shown to what is shown. Nothing shows in which order entries and calls came among each other.
pub record Led (may : Invocation → Outcome → Type 0) (moves : States → Call → States → Type 0) (before after : Observed) (acts : List Act) : Type 0 where
  pub asked : after.asked ≡ before.asked ++ flat_map entries acts
  pub given : Gave before.given after.given (flat_map moments acts)
  pub invoked : after.invoked ≡ before.invoked + length (flat_map invocations (flat_map calls acts))
  pub may_all : MayAll may (flat_map calls acts)
  pub seen : TellsMore before.seen (flat_map calls acts) after.seen
  pub state : LeadsStates moves before.state (flat_map calls acts) after.state
  pub number : after.number ≡ before.number

-- A turn was made at some moment, and the worker told what is gone.
abbrev pub TakesTurn : (Invocation → Outcome → Type 0) → (States → Call → States → Type 0) → Observed → Observed → Ask → Result Turn Refused → Type 0
TakesTurn may moves before after ask answer = (moment : ℕ) × Led may moves before after (acts_of moment ask answer)

-- A call of an object was ended without an answer.
abbrev pub GivesUp : (Invocation → Outcome → Type 0) → (States → Call → States → Type 0) → Observed → Observed → ObjId → Type 0
GivesUp may moves before after object = (moment place : ℕ) × Led may moves before after (abandon_act moment object place ∷ [])
