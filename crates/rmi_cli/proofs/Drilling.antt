-- What is said of a drill that was made.
use Rattle.std.proofs.Common.{◌≡◌, ℕ, List, [], ◌∷◌, ◌++◌, Option, Some, None, Result, ◌⊎◌, inl, inr, refl, ap, sym, subst, ◌∙◌, append_assoc, append-nil}
use Rattle.history.specs.declared.asks.SpaceConfig.{SpaceConfig}
use Rattle.history.specs.declared.asks.Event.{Event}
use Rattle.history.specs.declared.replies.Refused.{Refused}
use Rattle.history.specs.declared.replies.Refused.TheVariants.{HistoryFull, Full, OutOfMemory as NoMemory}
use Rattle.history.specs.declared.replies.Turn.{Turn}
use Rattle.history.specs.Limits.{limits, refusal}
use Rattle.history.specs.Steps.{Step, Steps, IsLegal, history_with}
use Rattle.history.specs.Table.{places}
use Rattle.wire_io.specs.Wire.{Wires}
use Rattle.drill.specs.Rounds.{drill_config, drill_events}
use Rattle.drill.specs.Runs.{StopsIn, EndsIn}
use Rattle.rmi_cli.specs.Drilled.{TakesAll, IsStopped, DrillStops, DrillEnds, DrillsExactly, drill_text}
use Rattle.rmi_cli.specs.Replay.{EventIsTaken, AllTaken}
use Rattle.rmi_cli.specs.Told.{Reported, TellsEnd}
use Rattle.rmi_cli.specs.declared.end.RunEnd.{RunEnd}
use Rattle.rmi_words.specs.declared.command.DrillText.{DrillText}
use Rattle.rmi_cli.specs.declared.end.RunEnd.TheVariants as ends

-- ---- legal histories

-- A step leaves the history, or takes its event.
one_step : (config : SpaceConfig) (h next : List Event) (e : Event) (a : Result Turn Refused) → Step config h e a next → (next ≡ h) ⊎ (EventIsTaken config h e × (next ≡ h ++ e ∷ []))
one_step config h next e a (inr q) = inl q.1
one_step config h next e a (inl p) = go (refusal (limits config) config (places config h) e) refl p.1
  where
    go : (r : Option Refused) → refusal (limits config) config (places config h) e ≡ r → next ≡ history_with h e r → (next ≡ h) ⊎ (EventIsTaken config h e × (next ≡ h ++ e ∷ []))
    go None is left = inr (is, left)
    go (Some refused) is left = inl left

-- Steps leave the history, and then events that are all taken.
steps_taken : (config : SpaceConfig) (h events : List Event) (given : List (Result Turn Refused)) (h2 : List Event) → Steps config h events given h2
    → (more : List Event) × (h2 ≡ h ++ more) × AllTaken config h more
steps_taken config h [] [] h2 s = ([], s ∙ sym (append-nil h), tt)
steps_taken config h [] (a ∷ given) h2 s = absurd s
steps_taken config h (e ∷ events) [] h2 s = absurd s
steps_taken config h (e ∷ events) (a ∷ given) h2 (next, step, steps) =
    on (one_step config h next e a step) (steps_taken config next events given h2 steps)
  where
    on : (next ≡ h) ⊎ (EventIsTaken config h e × (next ≡ h ++ e ∷ [])) → (more : List Event) × (h2 ≡ next ++ more) × AllTaken config next more
        → (more : List Event) × (h2 ≡ h ++ more) × AllTaken config h more
    on (inl same) (more, is, taken) =
        let P : List Event → Type 0 = λ g. AllTaken config g more in (more, is ∙ ap (λ g. g ++ more) same, subst P same taken)
    on (inr (first, same)) (more, is, taken) =
        let P : List Event → Type 0 = λ g. AllTaken config g more in (e ∷ more, is ∙ ap (λ g. g ++ more) same ∙ append_assoc h (e ∷ []) more, (first, subst P same taken))

-- The events of a legal history are all taken.
pub legal_taken : (config : SpaceConfig) (h : List Event) → IsLegal config h → AllTaken config [] h
legal_taken config h (events, given, steps) =
    let went = steps_taken config [] events given h steps in
    let P : List Event → Type 0 = λ g. AllTaken config [] g in subst P (sym went.1) went.2

-- Among events that are all taken there is no cause to refuse one.
taken_there : (config : SpaceConfig) (h front : List Event) (e : Event) (rest : List Event) → AllTaken config h (front ++ e ∷ rest) → EventIsTaken config (h ++ front) e
taken_there config h [] e rest taken = let P : List Event → Type 0 = λ g. EventIsTaken config g e in subst P (sym (append-nil h)) taken.0
taken_there config h (x ∷ front) e rest taken =
    let P : List Event → Type 0 = λ g. EventIsTaken config g e in
    subst P (append_assoc h (x ∷ []) front) (taken_there config (h ++ x ∷ []) front e rest taken.1)

-- ---- drills

pub takes_all : (seed rounds : ℕ) (config : SpaceConfig) (h : List Event) → config ≡ drill_config → h ≡ drill_events seed rounds → IsLegal config h → TakesAll seed rounds
takes_all seed rounds config h same is legal =
    let P : SpaceConfig → Type 0 = λ c. AllTaken c [] h in
    let Q : List Event → Type 0 = λ g. AllTaken drill_config [] g in
    subst Q is (subst P same (legal_taken config h legal))

stopped_in : (seed rounds : ℕ) (cause : Refused) → StopsIn drill_config [] (drill_events seed rounds) cause → IsStopped seed rounds
stopped_in seed rounds cause s = record {
  front = s.front;
  event = s.event;
  rest = s.rest;
  cause = cause;
  events_are = s.events_are;
  taken = legal_taken drill_config s.front s.legal;
  refused = s.cause;
}

pub stops : (seed rounds : ℕ) (refused : Refused) → EndsIn drill_config [] (drill_events seed rounds) refused → DrillStops seed rounds refused
stops seed rounds HistoryFull (inl memory) = absurd (cc)
stops seed rounds HistoryFull (inr s) = stopped_in seed rounds HistoryFull s
stops seed rounds (Full kind) (inl memory) = absurd (cc)
stops seed rounds (Full kind) (inr s) = stopped_in seed rounds (Full kind) s
stops seed rounds NoMemory e = tt

-- A drill whose events are all taken isn't stopped.
not_both : (seed rounds : ℕ) → TakesAll seed rounds → IsStopped seed rounds → ⊥
not_both seed rounds all s =
    let P : List Event → Type 0 = λ g. AllTaken drill_config [] g in
    let none : None ≡ Some s.cause = sym (taken_there drill_config [] s.front s.event s.rest (subst P s.events_are all)) ∙ s.refused in cc

-- A drill that ended so, and was told, is exact.
pub drills_exactly : (text : DrillText) (seed rounds : ℕ) (old new : Wires) (told : Reported) (end : RunEnd) → DrillEnds seed rounds (drill_text text seed rounds) old.held new.held end → TellsEnd told end
    → DrillsExactly text seed rounds old new told
drills_exactly text seed rounds old new told end e (inr memory) = record {
  all = λ all. inr (inr memory.1.0);
  stopped = λ stopped. inr (inr memory.1.0);
}
drills_exactly text seed rounds old new told ends.Done e (inl tells) = record {
  all = λ all. inl (tells, e.1);
  stopped = λ stopped. absurd (not_both seed rounds e.0 stopped);
}
drills_exactly text seed rounds old new told ends.Usage e (inl tells) = absurd e
drills_exactly text seed rounds old new told (ends.Answered end) e (inl tells) = absurd e
drills_exactly text seed rounds old new told (ends.Talked end) e (inl tells) = absurd e
drills_exactly text seed rounds old new told (ends.BadLine line) e (inl tells) = absurd e
drills_exactly text seed rounds old new told ends.Refused e (inl tells) = record {
  all = λ all. absurd (not_both seed rounds all e.0);
  stopped = λ stopped. inl (tells, e.1);
}
drills_exactly text seed rounds old new told (ends.TooLarge limit) e (inl tells) = absurd e
drills_exactly text seed rounds old new told (ends.NotShown fault) e (inl tells) = absurd e
drills_exactly text seed rounds old new told ends.ListenFault e (inl tells) = absurd e
drills_exactly text seed rounds old new told ends.AcceptFault e (inl tells) = absurd e
drills_exactly text seed rounds old new told ends.ReadFault e (inl tells) = absurd e
drills_exactly text seed rounds old new told ends.WriteFault e (inl tells) = record {
  all = λ all. inr (inl tells.0);
  stopped = λ stopped. inr (inl tells.0);
}
drills_exactly text seed rounds old new told ends.OutOfMemory e (inl tells) = record {
  all = λ all. inr (inr tells.0);
  stopped = λ stopped. inr (inr tells.0);
}
