-- Laws of steps and of lists of steps.
use Rattle.std.proofs.Common.{inl, List, [], ◌∷◌, ◌++◌, refl, subst, Result}
use Rattle.history.specs.declared.asks.SpaceConfig.{SpaceConfig}
use Rattle.history.specs.declared.asks.Event.{Event}
use Rattle.history.specs.declared.limits.Limits.{Limits}
use Rattle.history.specs.declared.replies.Turn.{Turn}
use Rattle.history.specs.declared.replies.Refused.{Refused}
use Rattle.history.specs.Limits.{limits}
use Rattle.history.specs.Steps.{StepWithin, Step, Steps, IsLegal, answer_to, history_after, answers}

-- The answer where memory is never wanting is a step.
pub answer_to-step : (within : Limits) (config : SpaceConfig) (h : List Event) (e : Event) → StepWithin within config h e (answer_to within config h e) (history_after within config h e)
answer_to-step within config h e = inl (refl, refl)

-- Such answers, one after another, are steps.
pub answers-steps : (config : SpaceConfig) (h events : List Event) → (h2 : List Event) × Steps config h events (answers (limits config) config h events) h2
unfolding answers
answers-steps config h [] = (h, refl)
answers-steps config h (e ∷ events) =
    let rest = answers-steps config (history_after (limits config) config h e) events in
    (rest.0, (history_after (limits config) config h e, answer_to-step (limits config) config h e, rest.1))

-- Any list of steps leaves a legal history that begins with the one before.
pub Steps-append : (config : SpaceConfig) (h events more : List Event) (first second : List (Result Turn Refused)) (h2 h3 : List Event) →
    Steps config h events first h2 → Steps config h2 more second h3 → Steps config h (events ++ more) (first ++ second) h3
Steps-append config h [] more [] second h2 h3 s t = let P : List Event → Type 0 = λ g. Steps config g more second h3 in subst P s t
Steps-append config h (e ∷ events) more (a ∷ first) second h2 h3 s t = (s.0, s.1, Steps-append config s.0 events more first second h2 h3 s.2 t)
Steps-append config h [] more (a ∷ first) second h2 h3 s t = absurd s
Steps-append config h (e ∷ events) more [] second h2 h3 s t = absurd s

-- One more step.
pub IsLegal-step : (config : SpaceConfig) (h h2 : List Event) (e : Event) (a : Result Turn Refused) → IsLegal config h → Step config h e a h2 → IsLegal config h2
IsLegal-step config h h2 e a l s =
    (l.0 ++ e ∷ [], l.1 ++ a ∷ [], Steps-append config [] l.0 (e ∷ []) l.1 (a ∷ []) h h2 l.2 (h2, s, refl))

pub IsLegal-none : (config : SpaceConfig) → IsLegal config []
IsLegal-none config = ([], [], refl)
