-- Lists of events that are asked one after the other, refused ones included.
use Rattle.std.proofs.Common.{◌≡◌, ◌≢◌, ℕ, length, arith, List, [], ◌∷◌, ◌++◌, Result, Err, refl, ap, sym, subst, ◌∙◌, inl, inr, append_assoc, append-nil}
use Rattle.std.specs.List.{AllByRecursion}
use Rattle.history.specs.declared.asks.SpaceConfig.{SpaceConfig}
use Rattle.history.specs.declared.asks.Event.{Event}
use Rattle.history.specs.declared.replies.Refused.{Refused}
use Rattle.history.specs.declared.replies.Refused.TheVariants.{OutOfMemory}
use Rattle.history.specs.declared.replies.Turn.{Turn}
use Rattle.history.specs.Limits.{limits}
use Rattle.history.specs.Steps.{Step, Steps, answer_to, answers}
use Rattle.history.proofs.StepLaws.{Steps-append}

-- Of these events a front is answered so far, and these are left.
pub record HasAnswered (config : SpaceConfig) (h events : List Event) (given : List (Result Turn Refused)) (left h2 : List Event) : Type 0 where
  pub front : List Event
  pub events_are : events ≡ front ++ left
  pub steps : Steps config h front given h2

one-more : (config : SpaceConfig) (h events : List Event) (given : List (Result Turn Refused)) (e : Event) (left h2 h3 : List Event) (a : Result Turn Refused) →
    HasAnswered config h events given (e ∷ left) h2 → Step config h2 e a h3 → HasAnswered config h events (given ++ a ∷ []) left h3
one-more config h events given e left h2 h3 a t s = record {
  front = t.front ++ e ∷ [];
  events_are = t.events_are ∙ sym (append_assoc t.front (e ∷ []) left);
  steps = Steps-append config h t.front (e ∷ []) given (a ∷ []) h2 h3 t.steps (h3, s, refl);
}

-- The same where these are known by equations.
pub answered-next : (config k : SpaceConfig) (h events : List Event) (given given2 : List (Result Turn Refused)) (e : Event) (all left h2 h3 : List Event) (a : Result Turn Refused) →
    k ≡ config → all ≡ e ∷ left → given2 ≡ given ++ a ∷ [] → HasAnswered config h events given all h2 → Step k h2 e a h3 → HasAnswered config h events given2 left h3
answered-next config k h events given given2 e all left h2 h3 a same first after t s =
    let P : List (Result Turn Refused) → Type 0 = λ ts. HasAnswered config h events ts left h3 in
    let Q : List Event → Type 0 = λ es. HasAnswered config h events given es h2 in
    let R : SpaceConfig → Type 0 = λ x. Step x h2 e a h3 in
    subst P (sym after) (one-more config h events given e left h2 h3 a (subst Q first t) (subst R same s))

pub none-left : (es : List Event) (n : ℕ) → n ≡ 0 → n ≡ length es → es ≡ []
none-left [] n z e = refl
none-left (x ∷ es) n z e = absurd (omega (arith, z, e))

-- Where none is left, all are answered.
pub answered-all : (config : SpaceConfig) (h events left : List Event) (given : List (Result Turn Refused)) (h2 : List Event) → left ≡ [] → HasAnswered config h events given left h2 → Steps config h events given h2
answered-all config h events left given h2 none t =
    let P : List Event → Type 0 = λ es. Steps config h es given h2 in
    subst P (sym (t.events_are ∙ ap (λ l. t.front ++ l) none ∙ append-nil t.front)) t.steps

-- Where memory was never wanting, the answers are those of the definition.
pub answered-exact : (config : SpaceConfig) (h events : List Event) (given : List (Result Turn Refused)) (h2 : List Event) → Steps config h events given h2 → AllByRecursion (λ a. a ≢ Err OutOfMemory) given → given ≡ answers (limits config) config h events
unfolding answers
answered-exact config h [] [] h2 s n = refl
answered-exact config h (e ∷ events) (a ∷ given) h2 s n = step s.1 (answered-exact config s.0 events given h2 s.2 n.1)
  where
    step : Step config h e a s.0 → given ≡ answers (limits config) config s.0 events → a ∷ given ≡ answers (limits config) config h (e ∷ events)
    step (inl p) rest = ap (λ x. x ∷ given) p.0 ∙ ap (λ l. answer_to (limits config) config h e ∷ l) (rest ∙ ap (λ g. answers (limits config) config g events) p.1)
    step (inr p) rest = absurd (n.0 p.0)
answered-exact config h [] (a ∷ given) h2 s n = absurd s
answered-exact config h (e ∷ events) [] h2 s n = absurd s
