-- Drills in a space, round by round.
use Rattle.std.specs.Prelude.{◌≡◌, ◌<◌, ℕ, zero, suc, ◌+◌, ◌-◌, List, [], ◌∷◌, ◌++◌, Some}
use Rattle.std.proofs.Common.{inl, inr, refl, ap, sym, subst, ◌∙◌, arith, append_assoc, append-nil}
use Rattle.history.specs.declared.asks.SpaceConfig.{SpaceConfig}
use Rattle.history.specs.declared.asks.Event.{Event}
use Rattle.history.specs.declared.replies.Refused.{Refused}
use Rattle.history.specs.Limits.{limits, refusal}
use Rattle.history.specs.Steps.{IsLegal}
use Rattle.history.specs.Table.{places}
use Rattle.drill.specs.Rounds.{DrillState, events_in, events_from, after_round}
use Rattle.drill.specs.Runs.{EndsIn, CameTo}

-- One round of those that are left.
pub one_round : (i : ℕ) (s : DrillState) (n : ℕ) → 0 < n → events_from i s n ≡ events_in i s ++ events_from (i + 1) (after_round s) (n - 1)
unfolding events_from
one_round i s zero some = absurd (omega (arith, some))
one_round i s (suc n) some =
    let next : suc i ≡ i + 1 = omega (arith) in
    let left : n ≡ suc n - 1 = omega (arith) in
    ap (λ k. events_in i s ++ events_from k (after_round s) n) next ∙ ap (λ m. events_in i s ++ events_from (i + 1) (after_round s) m) left

-- The events of the next round, and those after them.
pub next_round : (h events h2 batch : List Event) (i : ℕ) (s : DrillState) (n : ℕ) → CameTo h events h2 (events_from i s n) → 0 < n → batch ≡ events_in i s
    → CameTo h events h2 (batch ++ events_from (i + 1) (after_round s) (n - 1))
next_round h events h2 batch i s n came some is =
    subst (CameTo h events h2) (one_round i s n some ∙ ap (λ b. b ++ events_from (i + 1) (after_round s) (n - 1)) (sym is)) came

-- Where these events were taken, fewer are to come.
pub came_on : (h events h2 batch rest : List Event) → CameTo h events h2 (batch ++ rest) → CameTo h events (h2 ++ batch) rest
came_on h events h2 batch rest c = record { done = c.done ++ batch; after = ap (λ xs. xs ++ batch) c.after ∙ append_assoc h c.done batch; events_are = c.events_are ∙ sym (append_assoc c.done batch rest) }

-- Where the next of them stop, they all do.
pub ends_in : (config : SpaceConfig) (h events h2 batch rest : List Event) (r : Refused) → CameTo h events h2 (batch ++ rest) → EndsIn config h2 batch r → EndsIn config h events r
ends_in config h events h2 batch rest r c (inl none) = inl none
ends_in config h events h2 batch rest r c (inr s) =
    let there = ap (λ xs. xs ++ s.front) c.after ∙ append_assoc h c.done s.front in
    inr (record {
      front = c.done ++ s.front;
      event = s.event;
      rest = s.rest ++ rest;
      events_are = c.events_are ∙ ap (λ b. c.done ++ (b ++ rest)) s.events_are ∙ ap (λ b. c.done ++ b) (append_assoc s.front (s.event ∷ s.rest) rest) ∙ sym (append_assoc c.done s.front (s.event ∷ s.rest ++ rest));
      legal = subst (IsLegal config) there s.legal;
      cause = subst (λ xs. refusal (limits config) config (places config xs) s.event ≡ Some r) there s.cause;
    })

-- Where no round is left, all were taken.
pub all_came : (h events h2 : List Event) (i : ℕ) (s : DrillState) → CameTo h events h2 (events_from i s 0) → h2 ≡ h ++ events
unfolding events_from
all_came h events h2 i s c = c.after ∙ ap (λ xs. h ++ xs) (sym (c.events_are ∙ append-nil c.done))

-- Where the first events of some stop, they all do.
pub first_ends : (config : SpaceConfig) (h batch rest : List Event) (r : Refused) → EndsIn config h batch r → EndsIn config h (batch ++ rest) r
first_ends config h batch rest r ends = ends_in config h (batch ++ rest) h batch rest r (record { done = []; after = sym (append-nil h); events_are = refl }) ends

-- Where events stop that come after others, which were taken, they all do.
pub later_ends : (config : SpaceConfig) (h batch rest : List Event) (r : Refused) → EndsIn config (h ++ batch) rest r → EndsIn config h (batch ++ rest) r
later_ends config h batch rest r ends =
    ends_in config h (batch ++ rest) (h ++ batch) rest [] r (record { done = batch; after = refl; events_are = ap (λ xs. batch ++ xs) (sym (append-nil rest)) }) ends
