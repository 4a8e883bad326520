-- What `rmi drill` and `rmi journal` write.
use Rattle.std.specs.Prelude.{◌≡◌, ℕ, ◌<◌, ◌⊎◌, List, [], ◌∷◌, ◌++◌, length, take, Option, Some}
use Rattle.wire_io.specs.Wire.{Wires, with_end}
use Rattle.history.specs.declared.asks.Event.{Event}
use Rattle.history.specs.declared.asks.SpaceConfig.{SpaceConfig}
use Rattle.history.specs.declared.replies.Refused.{Refused}
use Rattle.history.specs.declared.replies.Refused.TheVariants.{HistoryFull, Full, OutOfMemory as NoMemory}
use Rattle.history.specs.Limits.{limits, refusal}
use Rattle.history.specs.Outline.{summary}
use Rattle.history.specs.Table.{places}
use Rattle.journal.specs.Written.{journal_text}
use Rattle.drill.specs.Rounds.{drill_config, drill_events}
use Rattle.rmi_cli.specs.Replay.{AllTaken}
use Rattle.rmi_cli.specs.Told.{Failures, Ran, Reported, TellsExactly}
use Rattle.rmi_words.specs.declared.command.DrillText.{DrillText}
use Rattle.rmi_words.specs.declared.command.DrillText.TheVariants.{Summary, Journal}
use Rattle.rmi_cli.specs.declared.end.RunEnd.{RunEnd}
use Rattle.rmi_cli.specs.declared.end.RunEnd.TheVariants.{Done, Usage, Answered, Talked, BadLine, Refused as RefusedTurn, TooLarge, NotShown, ListenFault, AcceptFault, ReadFault, WriteFault, OutOfMemory}

-- this text of a history: its summary, or its journal
abbrev pub text_of : DrillText → SpaceConfig → List Event → List ℕ
text_of Summary config events = summary config events
text_of Journal config events = journal_text config events

-- what is written of a drill whose events are all taken
abbrev pub drill_text : DrillText → ℕ → ℕ → List ℕ
drill_text text seed rounds = text_of text drill_config (drill_events seed rounds)

-- A drill's events are all taken, one after another.
abbrev pub TakesAll : ℕ → ℕ → Type 0
TakesAll seed rounds = AllTaken drill_config [] (drill_events seed rounds)

-- A drill's events are taken up to one that there is a cause to refuse.
pub record IsStopped (seed rounds : ℕ) : Type 0 where
  pub front : List Event
  pub event : Event
  pub rest : List Event
  pub cause : Refused
  pub events_are : drill_events seed rounds ≡ front ++ event ∷ rest
  pub taken : AllTaken drill_config [] front
  pub refused : refusal (limits drill_config) drill_config (places drill_config front) event ≡ Some cause

-- Why a drill's events were not all taken; want of memory says nothing of it.
abbrev pub DrillStops : ℕ → ℕ → Refused → Type 0
DrillStops seed rounds HistoryFull = IsStopped seed rounds
DrillStops seed rounds (Full kind) = IsStopped seed rounds
DrillStops seed rounds NoMemory = Unit {0}

-- how a run ends where an event was refused
abbrev pub end_of_refused : Refused → RunEnd
end_of_refused HistoryFull = RefusedTurn
end_of_refused (Full kind) = RefusedTurn
end_of_refused NoMemory = OutOfMemory

-- What each end says of a drill, and what was written, by what the output held before and after; `text` is the drill's text.
abbrev pub DrillEnds : ℕ → ℕ → List ℕ → Option (List ℕ) → Option (List ℕ) → RunEnd → Type 0
DrillEnds seed rounds text held held_after Done = TakesAll seed rounds × (held_after ≡ with_end held text)
DrillEnds seed rounds text held held_after Usage = ⊥
DrillEnds seed rounds text held held_after (Answered end) = ⊥
DrillEnds seed rounds text held held_after (Talked end) = ⊥
DrillEnds seed rounds text held held_after (BadLine line) = ⊥
DrillEnds seed rounds text held held_after RefusedTurn = IsStopped seed rounds × (held_after ≡ held)
DrillEnds seed rounds text held held_after (TooLarge limit) = ⊥
DrillEnds seed rounds text held held_after (NotShown fault) = ⊥
DrillEnds seed rounds text held held_after ListenFault = ⊥
DrillEnds seed rounds text held held_after AcceptFault = ⊥
DrillEnds seed rounds text held held_after ReadFault = ⊥
DrillEnds seed rounds text held held_after WriteFault =
    (sent : ℕ) × TakesAll seed rounds × (sent < length text) × (held_after ≡ with_end held (take sent text))
DrillEnds seed rounds text held held_after OutOfMemory = held_after ≡ held

-- A drill was made, which is told, and nothing was read.
pub record Drills (text : DrillText) (seed rounds : ℕ) (old new : Wires) (failed failed_after : Failures) (told : Reported) : Type 0 where
  pub ran : Ran (DrillEnds seed rounds (drill_text text seed rounds) old.held new.held) failed failed_after told
  pub unread : new.left ≡ old.left

-- The output or memory failed.
abbrev pub HasFailed : ℕ → Type 0
HasFailed status = (status ≡ 4) ⊎ (status ≡ 5)

-- Where a drill's events are all taken, its text was written; where one is refused, that is told, and nothing was written. Unless the
-- output or memory failed.
pub record DrillsExactly (text : DrillText) (seed rounds : ℕ) (old new : Wires) (told : Reported) : Type 0 where
  pub all : TakesAll seed rounds → (TellsExactly told Done × (new.held ≡ with_end old.held (drill_text text seed rounds))) ⊎ HasFailed told.status
  pub stopped : IsStopped seed rounds → (TellsExactly told RefusedTurn × (new.held ≡ old.held)) ⊎ HasFailed told.status
