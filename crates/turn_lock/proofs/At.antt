-- The steps at a seat whose view and slots are known.
use Rattle.std.proofs.Common.{◌≡◌, ℕ, ◌+◌, ◌%◌, ◌<◌, [], ◌∷◌, ◌++◌, length, sym, subst}
use mathlib.Core.Option.{none}
use Rattle.atomic_table.specs.Table.{step, Allows}
use Rattle.history.specs.declared.asks.Event.{Event}
use Rattle.history.specs.Steps.{IsLegal}
use Rattle.space.specs.Built.{SpaceHistory}
use Rattle.turn_lock.specs.declared.view.SeatState.TheVariants.{Idle, Drawn, Called}
use Rattle.turn_lock.specs.Rule.{Events, KeepsRule, Sat, space_with, holding, DrawsTicket, LooksAtServing, PublishesEvent, PassesOver, AdvancesServing, AbsorbsSeen}
use Rattle.turn_lock.proofs.Keeps.{draws, looks, publishes, passes_over, advances, absorbs}

pub draws_at : (h0 : SpaceHistory) (slots id : ℕ) (me : Sat) → slots ≡ 1 → me.0.state ≡ Idle → me.1 ≡ [] → 0 < me.0.parts
    → Allows (KeepsRule h0) slots id me 0 (λ n. (n + 1) % 18446744073709551616) (DrawsTicket (step slots 0 1 0 none) me)
draws_at h0 slots id me one idle empty part =
    let P : ℕ × Sat → Type 0 = λ x. Allows (KeepsRule h0) x.0 id x.1 0 (λ n. (n + 1) % 18446744073709551616) (DrawsTicket (step x.0 0 1 0 none) x.1) in
    subst P (λ i. (sym one i, (me.0, sym empty i))) (draws h0 id me.0 idle part)

pub looks_at : (h0 : SpaceHistory) (slots id : ℕ) (me : Sat) (t : ℕ) → slots ≡ 1 → me.0.state ≡ Drawn t → me.1 ≡ [] → 0 < me.0.parts → Allows (KeepsRule h0) slots id me 1 (λ n. n) (LooksAtServing (step slots 1 0 0 none) me)
looks_at h0 slots id me t one drawn empty part =
    let P : ℕ × Sat → Type 0 = λ x. Allows (KeepsRule h0) x.0 id x.1 1 (λ n. n) (LooksAtServing (step x.0 1 0 0 none) x.1) in
    subst P (λ i. (sym one i, (me.0, sym empty i))) (looks h0 id me.0 t drawn part)

pub advances_at : (h0 : SpaceHistory) (slots id : ℕ) (me : Sat) (t : ℕ) (hand : Events) → slots ≡ 1 → me.0.state ≡ Called t hand → 0 < me.0.parts → me.1 ≡ holding (space_with me.0.config hand)
    → Allows (KeepsRule h0) slots id me 1 (λ n. (n + 1) % 18446744073709551616) (AdvancesServing (step slots 1 1 0 none) me)
advances_at h0 slots id me t hand one called part carried =
    let P : ℕ × Sat → Type 0 = λ x. Allows (KeepsRule h0) x.0 id x.1 1 (λ n. (n + 1) % 18446744073709551616) (AdvancesServing (step x.0 1 1 0 none) x.1) in
    subst P (λ i. (sym one i, (me.0, sym carried i))) (advances h0 id me.0 t hand called part)

pub publishes_at : (h0 : SpaceHistory) (slots id : ℕ) (me : Sat) (t : ℕ) (hand : Events) (e : Event) (n : ℕ) → slots ≡ 1 → me.0.state ≡ Called t hand → 0 < me.0.parts → e.by ≡ me.0.number
    → n ≡ length (hand ++ e ∷ []) → IsLegal me.0.config (hand ++ e ∷ []) → Allows (KeepsRule h0) slots id me 2 (λ _. n) (λ _. PublishesEvent e (step slots 2 n 0 none) me n)
publishes_at h0 slots id me t hand e n one called part by many legal =
    let P : ℕ → Type 0 = λ x. Allows (KeepsRule h0) x id me 2 (λ _. n) (λ _. PublishesEvent e (step x 2 n 0 none) me n) in
    subst P (sym one) (publishes h0 id me.0 me.1 t hand e n called part by many legal)

pub passes_over_at : (h0 : SpaceHistory) (slots id : ℕ) (me : Sat) (t : ℕ) (hand : Events) (n : ℕ) → slots ≡ 1 → me.0.state ≡ Called t hand → 0 < me.0.parts → n ≡ length hand
    → Allows (KeepsRule h0) slots id me 2 (λ _. n) (λ _. PassesOver (step slots 2 n 0 none) me n)
passes_over_at h0 slots id me t hand n one called part many =
    let P : ℕ → Type 0 = λ x. Allows (KeepsRule h0) x id me 2 (λ _. n) (λ _. PassesOver (step x 2 n 0 none) me n) in
    subst P (sym one) (passes_over h0 id me.0 me.1 t hand n called part many)

pub absorbs_at : (h0 : SpaceHistory) (slots id : ℕ) (me : Sat) → slots ≡ 1 → me.0.state ≡ Idle → me.1 ≡ [] → 0 < me.0.parts → Allows (KeepsRule h0) slots id me 0 (λ n. n) (AbsorbsSeen (step slots 0 0 0 none) me)
absorbs_at h0 slots id me one idle empty part =
    let P : ℕ × Sat → Type 0 = λ x. Allows (KeepsRule h0) x.0 id x.1 0 (λ n. n) (AbsorbsSeen (step x.0 0 0 0 none) x.1) in
    subst P (λ i. (sym one i, (me.0, sym empty i))) (absorbs h0 id me.0 idle part)
