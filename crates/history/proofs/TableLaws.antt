-- Laws of the table: what one more event does to it.
use Rattle.std.proofs.Common.{◌≡◌, suc, ◌+◌, List, [], ◌∷◌, ◌++◌, length, refl, ap, ◌∙◌}
use Rattle.std.specs.Prelude.{filter, reverse, max, not}
use Rattle.std.proofs.lemmas.List.{reverse-append, length-reverse}
use Rattle.std.proofs.lemmas.List.Sums.{sum_by-cons}
use Rattle.history.specs.declared.asks.SpaceConfig.{SpaceConfig}
use Rattle.history.specs.declared.asks.Event.{Event}
use Rattle.history.specs.declared.places.Place.{Place}
use Rattle.history.specs.Places.{History, now, ever_exported}
use Rattle.history.specs.Limits.{units_of, units}
use Rattle.history.specs.Table.{is_kept, table, place_of, places_back, places, withdrawn_objects}

-- ---- places

-- Each place has its number.
abbrev pub IsNumbered : History → Type 0
IsNumbered [] = Unit {0}
IsNumbered (p ∷ before) = (p.index ≡ length before) × IsNumbered before

pub index-place_of : (config : SpaceConfig) (h : History) (e : Event) → (place_of config h e).index ≡ length h
unfolding place_of
index-place_of config h e = refl

pub ask-place_of : (config : SpaceConfig) (h : History) (e : Event) → (place_of config h e).event.ask ≡ e.ask
unfolding place_of
ask-place_of config h e = refl

pub places_back-numbered : (config : SpaceConfig) (es : List Event) → IsNumbered (places_back config es)
unfolding places_back
places_back-numbered config [] = tt
places_back-numbered config (e ∷ es) = (index-place_of config (places_back config es) e, places_back-numbered config es)

pub places-numbered : (config : SpaceConfig) (h : List Event) → IsNumbered (places config h)
unfolding places
places-numbered config h = places_back-numbered config (reverse h)

length-places_back : (config : SpaceConfig) (es : List Event) → length (places_back config es) ≡ length es
unfolding places_back
length-places_back config [] = refl
length-places_back config (e ∷ es) = ap suc (length-places_back config es)

pub length-places : (config : SpaceConfig) (h : List Event) → length (places config h) ≡ length h
unfolding places
length-places config h = length-places_back config (reverse h) ∙ length-reverse h

-- One more event at the end of a history is one more place at the head.
pub places-push : (config : SpaceConfig) (h : List Event) (e : Event) → places config (h ++ e ∷ []) ≡ place_of config (places config h) e ∷ places config h
unfolding places places_back
places-push config h e = ap (places_back config) (reverse-append h (e ∷ []))

pub places-none : (config : SpaceConfig) → places config [] ≡ []
unfolding places places_back
places-none config = refl

-- ---- moments

pub now-push : (config : SpaceConfig) (h : History) (e : Event) → now (place_of config h e ∷ h) ≡ max e.moment (now h)
unfolding now place_of
now-push config h e = refl

pub moment-place_of : (config : SpaceConfig) (h : History) (e : Event) → (place_of config h e).moment ≡ max e.moment (now h)
unfolding place_of
moment-place_of config h e = refl

-- ---- the table

pub ever_exported-push : (p : Place) (h : History) → ever_exported (p ∷ h) ≡ ever_exported h ++ p.exported_here
unfolding ever_exported
ever_exported-push p h = refl

-- THE STEP: the table after one more event has those objects of the table before it, and of those that the event exports, that are
-- kept now.
pub table-place : (config : SpaceConfig) (h : History) (e : Event) →
    table config (place_of config h e ∷ h) ≡ filter (is_kept config (place_of config h e ∷ h)) (table config h ++ (place_of config h e).exported_here)
unfolding table
table-place config h e = refl

-- The same over events.
pub table-push : (config : SpaceConfig) (h : List Event) (e : Event) →
    table config (places config (h ++ e ∷ []))
    ≡ filter (is_kept config (places config (h ++ e ∷ []))) (table config (places config h) ++ (place_of config (places config h) e).exported_here)
table-push config h e = rw places-push (table-place config (places config h) e)

pub table-none : (config : SpaceConfig) → table config [] ≡ []
unfolding table
table-none config = refl

-- What the event withdraws is the rest of them.
pub withdrawn_objects-place : (config : SpaceConfig) (h : History) (e : Event) →
    withdrawn_objects config (place_of config h e ∷ h) ≡ filter (λ x. not (is_kept config (place_of config h e ∷ h) x)) (table config h ++ (place_of config h e).exported_here)
unfolding withdrawn_objects place_of
withdrawn_objects-place config h e = refl

-- ---- units

pub units-push : (p : Place) (h : History) → units (p ∷ h) ≡ units_of p.event.ask + units h
unfolding units
units-push p h = sum_by-cons (λ (q : Place). units_of q.event.ask) p h

pub units-none : units [] ≡ 0
unfolding units
units-none = refl
