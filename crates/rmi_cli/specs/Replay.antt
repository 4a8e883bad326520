-- What `rmi replay` does.
use Rattle.std.specs.Prelude.{◌≡◌, ◌≢◌, ℕ, ◌+◌, ◌⊎◌, List, [], ◌∷◌, ◌++◌, length, None, Some, Result, Ok, Err}
use Rattle.history.specs.declared.asks.SpaceConfig.{SpaceConfig}
use Rattle.history.specs.declared.asks.Event.{Event}
use Rattle.history.specs.declared.replies.Refused.{Refused}
use Rattle.history.specs.Limits.{limits, refusal}
use Rattle.history.specs.Table.{with_event, places}
use Rattle.history.specs.Outline.{outline}
use Rattle.journal.specs.Grammar.{SpellsConfig, SpellsEvent, SpellsFront, JournalText}
use Rattle.rmi_cli.specs.declared.outlines.ReplayFault.{ReplayFault}
use Rattle.rmi_cli.specs.declared.outlines.ReplayFault.TheVariants.{BadLine, Refused as RefusedTurn, OutOfMemory}

-- ---- lines

-- After the history h the event is taken: there is no cause to refuse it.
abbrev pub EventIsTaken : SpaceConfig → List Event → Event → Type 0
EventIsTaken config h e = refusal (limits config) config (places config h) e ≡ None

-- These lines spell events that are taken, one after another, after the history h.
abbrev pub TakesLines : SpaceConfig → List Event → List Event → List ℕ → Type 0
TakesLines config h [] lines = lines ≡ []
TakesLines config h (e ∷ events) lines =
    (line : List ℕ) × (rest : List ℕ) × SpellsEvent config.uid e line × EventIsTaken config h e
    × TakesLines config (with_event h e) events rest × (lines ≡ line ++ 10 ∷ rest)

-- The first of these lines spells this event.
abbrev pub BeginsWith : SpaceConfig → List ℕ → Event → Type 0
BeginsWith config lines e = (line : List ℕ) × (rest : List ℕ) × SpellsEvent config.uid e line × (lines ≡ line ++ 10 ∷ rest)

-- There are lines, and the first of them spells no event.
abbrev pub FirstLineIsBad : SpaceConfig → List ℕ → Type 0
FirstLineIsBad config lines = (lines ≢ []) × ((e : Event) → BeginsWith config lines e → ⊥)

-- Why no more lines are taken after the history h: there are none; or the first is bad, whose number is told; or its event is refused.
abbrev pub ReplayStops : SpaceConfig → List Event → List ℕ → ℕ → Result (Unit {0}) ReplayFault → Type 0
ReplayStops config h lines number (Ok _) = lines ≡ []
ReplayStops config h lines number (Err (BadLine line)) = (lines ≢ []) × ((e : Event) → BeginsWith config lines e → ⊥) × (line ≡ number)
ReplayStops config h lines number (Err RefusedTurn) = (e : Event) × BeginsWith config lines e × ((cause : Refused) × (refusal (limits config) config (places config h) e ≡ Some cause))
ReplayStops config h lines number (Err OutOfMemory) = Unit {0}

-- After the history h these lines, the first of which has this number, are taken up to a stop, which leaves the history h_after.
pub record LinesGo (config : SpaceConfig) (h : List Event) (lines : List ℕ) (number : ℕ) (stop : Result (Unit {0}) ReplayFault) (h_after : List Event) : Type 0 where
  pub events : List Event
  pub front : List ℕ
  pub rest : List ℕ
  pub lines_are : lines ≡ front ++ rest
  pub taken : TakesLines config h events front
  pub after : h_after ≡ h ++ events
  pub stops : ReplayStops config h_after rest (number + length events) stop

-- ---- the whole input

-- The input's first line spells the configuration, and these lines follow.
abbrev pub OpensJournal : List ℕ → SpaceConfig → List ℕ → Type 0
OpensJournal input config lines = (line : List ℕ) × SpellsConfig config line × (input ≡ line ++ 10 ∷ lines)

-- After the history h these events are all taken, one after another.
abbrev pub AllTaken : SpaceConfig → List Event → List Event → Type 0
AllTaken config h [] = Unit {0}
AllTaken config h (e ∷ events) = EventIsTaken config h e × AllTaken config (with_event h e) events

-- The input is a journal up to this rest: of this configuration and of these events, which are all taken.
pub record IsJournalUpTo (input : List ℕ) (config : SpaceConfig) (events : List Event) (rest : List ℕ) : Type 0 where
  pub lines : List ℕ
  pub opens : OpensJournal input config lines
  pub spelled : SpellsFront config.uid events lines rest
  pub taken : AllTaken config [] events

-- The input is a journal whose events are all taken, and the output is the outline of their history.
abbrev pub Outlines : List ℕ → List ℕ → Type 0
Outlines input output =
    (config : SpaceConfig) × (events : List Event) × JournalText input config events × AllTaken config [] events × (output ≡ outline config events)

-- The first bad line: the first line of all, which is number 1, or one after lines that were all taken.
abbrev pub IsBadLine : List ℕ → ℕ → Type 0
IsBadLine input number =
    ((number ≡ 1) × ((config : SpaceConfig) (lines : List ℕ) → OpensJournal input config lines → ⊥))
    ⊎ ((config : SpaceConfig) × (events : List Event) × (rest : List ℕ) × IsJournalUpTo input config events rest × FirstLineIsBad config rest × (number ≡ 2 + length events))

-- A turn is refused after lines that were all taken.
abbrev pub IsTurnRefused : List ℕ → Type 0
IsTurnRefused input =
    (config : SpaceConfig) × (events : List Event) × (rest : List ℕ) × IsJournalUpTo input config events rest
    × ((e : Event) × BeginsWith config rest e × ((cause : Refused) × (refusal (limits config) config (places config events) e ≡ Some cause)))

-- What a replay of an input answers.
abbrev pub Replays : List ℕ → Result (List ℕ) ReplayFault → Type 0
Replays input (Ok output) = Outlines input output
Replays input (Err (BadLine line)) = IsBadLine input line
Replays input (Err RefusedTurn) = IsTurnRefused input
Replays input (Err OutOfMemory) = Unit {0}
