-- Turns: one step of a history, and lists of steps. A history is here the list of its events, the oldest first.
use Rattle.std.specs.Prelude.{◌≡◌, List, [], ◌∷◌, length, Option, Some, None, Result, Ok, Err, ◌⊎◌}
use Rattle.history.specs.declared.asks.SpaceConfig.{SpaceConfig}
use Rattle.history.specs.declared.asks.Event.{Event}
use Rattle.history.specs.declared.replies.Turn.{Turn}
use Rattle.history.specs.declared.replies.Refused.{Refused}
use Rattle.history.specs.declared.replies.Refused.TheVariants.{OutOfMemory}
use Rattle.history.specs.declared.limits.Limits.{Limits}
use Rattle.history.specs.Limits.{limits, refusal}
use Rattle.history.specs.Replies.{reply, gone_objects}
use Rattle.history.specs.Table.{places, with_event}

-- The turn of an event that is taken after a history.
abbrev pub turn_of : SpaceConfig → List Event → Event → Turn
turn_of config h e = record { place = length h; reply = reply config (places config h) e; gone = gone_objects config (places config h) e }

-- The answer to an event, where memory is never wanting: a turn, or the cause for which it is refused.
abbrev pub answer_with : SpaceConfig → List Event → Event → Option Refused → Result Turn Refused
answer_with config h e None = Ok (turn_of config h e)
answer_with config h e (Some refused) = Err refused

abbrev pub answer_to : Limits → SpaceConfig → List Event → Event → Result Turn Refused
answer_to within config h e = answer_with config h e (refusal within config (places config h) e)

-- The history after it.
abbrev pub history_with : List Event → Event → Option Refused → List Event
history_with h e None = with_event h e
history_with h e (Some refused) = h

abbrev pub history_after : Limits → SpaceConfig → List Event → Event → List Event
history_after within config h e = history_with h e (refusal within config (places config h) e)

-- The answers to events that are asked one after another after a history.
unfoldable pub answers : Limits → SpaceConfig → List Event → List Event → List (Result Turn Refused)
answers within config h [] = []
answers within config h (e ∷ events) = answer_to within config h e ∷ answers within config (history_after within config h e) events

-- After the history h the event may be answered so within these limits, and leave h2: a turn appends the event, a refusal leaves the
-- history. Want of memory may come in place of any answer, and leaves the history too.
abbrev pub StepWithin : Limits → SpaceConfig → List Event → Event → Result Turn Refused → List Event → Type 0
StepWithin within config h e answer h2 =
    ((answer ≡ answer_to within config h e) × (h2 ≡ history_after within config h e))
    ⊎ ((answer ≡ Err OutOfMemory) × (h2 ≡ h))

-- The same within the limits of a space.
abbrev pub Step : SpaceConfig → List Event → Event → Result Turn Refused → List Event → Type 0
Step config h e answer h2 = StepWithin (limits config) config h e answer h2

-- These events, asked one after another after the history h, may be answered so, and leave h2.
abbrev pub Steps : SpaceConfig → List Event → List Event → List (Result Turn Refused) → List Event → Type 0
Steps config h [] [] h2 = h2 ≡ h
Steps config h (e ∷ events) (answer ∷ rest) h2 = (next : List Event) × Step config h e answer next × Steps config next events rest h2
Steps config h [] (answer ∷ rest) h2 = ⊥
Steps config h (e ∷ events) [] h2 = ⊥

-- A legal history is what some list of steps leaves of the empty one.
abbrev pub IsLegal : SpaceConfig → List Event → Type 0
IsLegal config h = (events : List Event) × (given : List (Result Turn Refused)) × Steps config [] events given h
