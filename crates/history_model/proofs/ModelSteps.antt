-- Steps of the model.
use Rattle.std.proofs.Common.{◌≡◌, ◌+◌, ◌<◌, List, ◌∷◌, ◌++◌, [], length, take, get_or, ap, sym, ◌∙◌}
use Rattle.std.proofs.lemmas.List.{take_more}
use Rattle.std.specs.Prelude.{ℕ, sum_by}
use Rattle.std.proofs.lemmas.List.Sums.{sum_by-cons}
use Rattle.history.specs.declared.asks.SpaceConfig.{SpaceConfig}
use Rattle.history.specs.declared.asks.Event.{Event}
use Rattle.history.specs.declared.places.Place.{Place}
use Rattle.history.specs.Limits.{units_of}
use Rattle.history.specs.Table.{place_of, places}
use Rattle.history.specs.Places.{History}
use Rattle.history.proofs.NumberLaws.{exported_count-length}
use Rattle.history.proofs.TableLaws.{places-push}

pub ruleset next_steps = (exported_count-length)

-- One more event is one more place.
pub places_step : (config : SpaceConfig) (events : List Event) (i : ℕ) (e : Event) (before after : History) (p : Place) → i < length events → e ≡ get_or events i e →
    before ≡ places config (take i events) → p ≡ place_of config before e → after ≡ p ∷ before → after ≡ places config (take (i + 1) events)
places_step config events i e before after p l here b q a =
    a ∙ ap (λ x. x ∷ before) q ∙ ap (λ h. place_of config h e ∷ h) b ∙ sym (places-push config (take i events) e)
    ∙ ap (λ x. places config (take i events ++ x ∷ [])) here ∙ ap (places config) (sym (take_more events i e l))

-- One more place has the units of its event.
pub units_more : (p : Place) (h : History) → sum_by (λ (q : Place). units_of q.event.ask) (p ∷ h) ≡ units_of p.event.ask + sum_by (λ (q : Place). units_of q.event.ask) h
units_more p h = sum_by-cons (λ (q : Place). units_of q.event.ask) p h

pub ruleset units_steps = (units_more)
