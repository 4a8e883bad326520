-- A journal's lines, one after another, and the turns of the events that they spell.
use Rattle.std.specs.Prelude.{◌≡◌, ℕ, ◌+◌, List, ◌∷◌, ◌++◌, length, Some}
use Rattle.history.specs.declared.asks.SpaceConfig.{SpaceConfig}
use Rattle.history.specs.declared.asks.Event.{Event}
use Rattle.history.specs.declared.replies.Refused.{Refused}
use Rattle.history.specs.declared.replies.Refused.TheVariants.{HistoryFull, Full, OutOfMemory as NoMemory}
use Rattle.history.specs.Limits.{limits, refusal}
use Rattle.history.specs.Table.{with_event, places}
use Rattle.journal.specs.Grammar.{SpellsEvent}
use Rattle.rmi_cli.specs.declared.outlines.ReplayFault.{ReplayFault}
use Rattle.rmi_cli.specs.declared.outlines.ReplayFault.TheVariants.{BadLine, Refused as RefusedTurn, OutOfMemory}
use Rattle.rmi_cli.specs.declared.outlines.LineFault.{LineFault}
use Rattle.rmi_cli.specs.declared.outlines.LineFault.TheVariants.{Bad, OutOfMemory as NoRoom}
use Rattle.rmi_cli.specs.Replay.{EventIsTaken, TakesLines, BeginsWith}

-- ---- reading

-- The first of these lines spells this event; `more` are the lines after it.
abbrev pub TakesLine : SpaceConfig → List ℕ → Event → List ℕ → Type 0
TakesLine config lines e more = (line : List ℕ) × SpellsEvent config.uid e line × (lines ≡ line ++ 10 ∷ more)

-- The first of these lines spells no event; want of memory says nothing of it.
abbrev pub WasBad : SpaceConfig → List ℕ → LineFault → Type 0
WasBad config lines Bad = (e : Event) → BeginsWith config lines e → ⊥
WasBad config lines NoRoom = Unit {0}

-- ---- turns

-- After the history h the event is taken, and leaves the history h_after.
abbrev pub IsTakenTo : SpaceConfig → List Event → Event → List Event → Type 0
IsTakenTo config h e h_after = EventIsTaken config h e × (h_after ≡ with_event h e)

-- Why the event is not taken after the history h; want of memory says nothing of it.
abbrev pub Halts : SpaceConfig → List Event → Event → ReplayFault → Type 0
Halts config h e (BadLine line) = ⊥
Halts config h e RefusedTurn = (cause : Refused) × (refusal (limits config) config (places config h) e ≡ Some cause)
Halts config h e OutOfMemory = Unit {0}

-- What a refused turn ends a replay with.
abbrev pub fault_of : Refused → ReplayFault
fault_of HistoryFull = RefusedTurn
fault_of (Full kind) = RefusedTurn
fault_of NoMemory = OutOfMemory

-- ---- both

-- After the history h a front of these lines, the first of which has this number, is taken, and leaves the history h_after; `next` is the
-- number of the first of the lines `rest` after it.
pub record TakesTo (config : SpaceConfig) (h : List Event) (lines : List ℕ) (number : ℕ) (rest : List ℕ) (next : ℕ) (h_after : List Event) : Type 0 where
  pub events : List Event
  pub front : List ℕ
  pub lines_are : lines ≡ front ++ rest
  pub taken : TakesLines config h events front
  pub after : h_after ≡ h ++ events
  pub next_is : next ≡ number + length events
