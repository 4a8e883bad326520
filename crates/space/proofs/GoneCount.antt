-- How many objects a history withdrew: no more than it exported.
use Rattle.std.proofs.Common.{◌≡◌, ℕ, ◌+◌, ◌≤◌, ◌^◌, List, [], ◌∷◌, ◌++◌, length, refl, ap, ◌∙◌, arith, length-append}
use Rattle.std.specs.Prelude.{Bool, not, filter, reverse}
use Rattle.std.proofs.lemmas.List.{length-map}
use Rattle.history.specs.declared.asks.SpaceConfig.{SpaceConfig}
use Rattle.history.specs.declared.asks.Event.{Event}
use Rattle.history.specs.declared.places.Exported.{Exported}
use Rattle.history.specs.declared.places.Withdrawal.{Withdrawal}
use Rattle.history.specs.Places.{History, exported_count}
use Rattle.history.specs.Table.{is_kept, table, place_of, places_back, places, withdrawn_objects, withdrawals_at_end, withdrawals}
use Rattle.history.proofs.GoneLaws.{withdrawals-push, withdrawals-none}
use Rattle.history.proofs.NumberLaws.{next-push}
use Rattle.history.proofs.TableLaws.{table-place, table-none, withdrawn_objects-place}
use Rattle.dgc_server.specs.StandsForCalls.{LeaseTable}
use Rattle.export_table.specs.Table.{ExportTable}
use Rattle.space.specs.declared.runs.Run.{Run}
use Rattle.space.specs.Kept.{Keeps}
use Rattle.space.proofs.AheadLaws.{some-or-not}

-- Each object that a history exported was withdrawn or is in its table.
abbrev pub IsCounted : SpaceConfig → History → Type 0
IsCounted config h = length (withdrawals config h) + length (table config h) ≡ exported_count h

counted-none : (config : SpaceConfig) → IsCounted config []
unfolding exported_count
counted-none config = rw (withdrawals-none, table-none) refl

counted-place : (config : SpaceConfig) (h : History) (e : Event) → IsCounted config h → IsCounted config (place_of config h e ∷ h)
counted-place config h e before =
    let all : List Exported = table config h ++ (place_of config h e).exported_here in
    let kept : Exported → Bool = is_kept config (place_of config h e ∷ h) in
    let stays : length (table config (place_of config h e ∷ h)) ≡ length (filter kept all) = ap length (table-place config h e) in
    let goes : length (withdrawals_at_end config (place_of config h e ∷ h)) ≡ length (filter (λ o. not (kept o)) all) =
    length-map (withdrawn_objects config (place_of config h e ∷ h)) (λ (o : Exported). record { object = o.id; place = (place_of config h e).index })
    ∙ ap length (withdrawn_objects-place config h e) in
    let gone : length (withdrawals config (place_of config h e ∷ h)) ≡ length (withdrawals config h) + length (withdrawals_at_end config (place_of config h e ∷ h)) =
    ap length (withdrawals-push config (place_of config h e) h) ∙ length-append (withdrawals config h) (withdrawals_at_end config (place_of config h e ∷ h)) in
    let both = some-or-not kept all in
    let sum = length-append (table config h) (place_of config h e).exported_here in
    let next = next-push (place_of config h e) h in
    omega (arith, before, stays, goes, gone, both, sum, next)

counted-back : (config : SpaceConfig) (es : List Event) → IsCounted config (places_back config es)
unfolding places_back
counted-back config [] = counted-none config
counted-back config (e ∷ es) = counted-place config (places_back config es) e (counted-back config es)

pub counted : (config : SpaceConfig) (events : List Event) → IsCounted config (places config events)
unfolding places
counted config events = counted-back config (reverse events)

-- THE WITHDRAWALS are fewer than a history may have units.
pub few-withdrawn : {config : SpaceConfig} {events : List Event} {leases : LeaseTable} {exports : ExportTable} {runs : List Run} {withdrawn : List Withdrawal} {reported opened used moment : ℕ} →
    Keeps config events leases exports runs withdrawn reported opened used moment → length withdrawn ≤ 2 ^ 62
few-withdrawn {config} {events} k =
    let all = counted config events in
    let gone = ap length k.stands.withdrawn_are in
    let opened = k.stands.opened_is in
    let few = k.few_opened in
    let used = k.stands.used_is in
    let within = k.stands.within.countable in
    omega (arith, all, gone, opened, few, used, within)
