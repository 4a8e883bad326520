-- Laws of withdrawals: what is still to be told, and what a turn tells as gone.
use Rattle.std.proofs.Common.{◌≡◌, ℕ, ◌+◌, ◌<◌, ◌≤◌, List, [], ◌∷◌, ◌++◌, length, refl, ap, sym, ◌∙◌, arith, cond, Some}
use Rattle.std.specs.Prelude.{Bool, true, false, not, filter, find, map, nat_le, reverse, if◌then◌else◌, option_map, unwrap_or}
use Rattle.std.specs.List.{AllByRecursion}
use Rattle.std.proofs.lemmas.Bool.{le-leb, lt-leb}
use Rattle.std.proofs.lemmas.List.{map-append}
use Rattle.std.proofs.lemmas.List.Elements.{filter-append}
use Rattle.history.specs.declared.asks.SpaceConfig.{SpaceConfig}
use Rattle.history.specs.declared.asks.Event.{Event}
use Rattle.history.specs.declared.places.Place.{Place}
use Rattle.history.specs.declared.places.Exported.{Exported}
use Rattle.history.specs.declared.places.Withdrawal.{Withdrawal}
use Rattle.history.specs.Table.{place_of, places_back, places, withdrawn_objects, withdrawals_at_end, withdrawals}
pub use Rattle.history.specs.Replies.{unreported_objects}
use Rattle.history.specs.Replies.{ids, is_abandon, gone_objects}
use Rattle.history.specs.Laws.{first_unreported, withdrawn_from, GoneSinceLast}
use Rattle.history.specs.Places.{History}
use Rattle.history.proofs.ListLemmas.{every-append, every-weaker}
use Rattle.history.proofs.TableLaws.{IsNumbered, index-place_of, ask-place_of, places_back-numbered}

-- One more place withdraws what it withdraws.
pub withdrawals-push : (config : SpaceConfig) (p : Place) (h : History) → withdrawals config (p ∷ h) ≡ withdrawals config h ++ withdrawals_at_end config (p ∷ h)
unfolding withdrawals
withdrawals-push config p h = refl

-- WHAT A TURN TELLS is what was still to be told, and what it withdraws itself.
pub gone_objects-push : (config : SpaceConfig) (h : History) (e : Event) → IsNumbered h →
    gone_objects config h e ≡ unreported_objects config h ++ ids (withdrawn_objects config (place_of config h e ∷ h))
unfolding gone_objects
gone_objects-push config h e n = refl

-- Afterwards that is still to be told if the event was an Abandon, and nothing if it was none.
pub unreported_objects-push : (config : SpaceConfig) (h : History) (e : Event) → IsNumbered (place_of config h e ∷ h) →
    unreported_objects config (place_of config h e ∷ h) ≡ (if is_abandon e.ask then gone_objects config h e else [])
unfolding unreported_objects gone_objects
unreported_objects-push config h e n = ap (λ a. if is_abandon a then unreported_objects config h ++ ids (withdrawn_objects config (place_of config h e ∷ h)) else []) (ask-place_of config h e)

pub unreported_objects-none : (config : SpaceConfig) → unreported_objects config [] ≡ []
unfolding unreported_objects
unreported_objects-none config = refl

-- ---- since the last event that is no Abandon

at_place : (n : ℕ) (xs : List Exported) → AllByRecursion (λ (w : Withdrawal). w.place ≡ n) (map (λ x. record { object = x.id; place = n }) xs)
at_place n [] = tt
at_place n (x ∷ xs) = (refl, at_place n xs)

pub withdrawals-none : (config : SpaceConfig) → withdrawals config [] ≡ []
unfolding withdrawals
withdrawals-none config = refl

-- Each withdrawal stands at a place of the history.
withdrawals-below : (config : SpaceConfig) (h : History) → IsNumbered h → AllByRecursion (λ (w : Withdrawal). w.place < length h) (withdrawals config h)
withdrawals-below config [] n = rw withdrawals-none tt
withdrawals-below config (p ∷ h) n =
    rw withdrawals-push (every-append (λ (w : Withdrawal). w.place < length (p ∷ h)) (withdrawals config h) (withdrawals_at_end config (p ∷ h))
    (every-weaker (λ (w : Withdrawal). w.place < length h) (λ (w : Withdrawal). w.place < length (p ∷ h)) (λ w a. omega arith) (withdrawals config h) (withdrawals-below config h n.1))
    (every-weaker (λ (w : Withdrawal). w.place ≡ p.index) (λ (w : Withdrawal). w.place < length (p ∷ h)) (λ w a. let b = n.0 in omega arith) (withdrawals_at_end config (p ∷ h)) (at_place p.index (withdrawn_objects config (p ∷ h)))))

filter-all : {X : Type 0} (test : X → Bool) (xs : List X) → AllByRecursion (λ x. test x ≡ true) xs → filter test xs ≡ xs
filter-all test [] e = refl
filter-all test (x ∷ xs) e = rw (e.0, filter-all test xs e.1) refl

filter-none : {X : Type 0} (test : X → Bool) (xs : List X) → AllByRecursion (λ x. test x ≡ false) xs → filter test xs ≡ []
filter-none test [] e = refl
filter-none test (x ∷ xs) e = rw (e.0, filter-none test xs e.1) refl

objects-at : (n : ℕ) (xs : List Exported) → map (λ (w : Withdrawal). w.object) (map (λ x. record { object = x.id; place = n }) xs) ≡ ids xs
objects-at n [] = refl
objects-at n (x ∷ xs) = ap (λ l. x.id ∷ l) (objects-at n xs)

untold-within : (h : History) → IsNumbered h → first_unreported h ≤ length h
untold-within [] n = omega arith
untold-within (p ∷ h) n = go (is_abandon p.event.ask) (untold-within h n.1)
  where
    go : (b : Bool) → first_unreported h ≤ length h → unwrap_or (option_map (λ (q : Place). q.index + 1) (cond (not b) (Some p) (find (λ (q : Place). not (is_abandon q.event.ask)) h))) 0 ≤ length (p ∷ h)
    go true ih = omega arith
    go false ih = let b = n.0 in omega arith

-- What the next place withdraws is told beside what was still to be told.
told-next : (config : SpaceConfig) (h : History) (e : Event) → IsNumbered h →
    withdrawn_from (first_unreported h) config (place_of config h e ∷ h) ≡ withdrawn_from (first_unreported h) config h ++ ids (withdrawn_objects config (place_of config h e ∷ h))
told-next config h e n =
    ap (λ ws. map (λ (w : Withdrawal). w.object) (filter (λ w. nat_le (first_unreported h) w.place) ws)) (withdrawals-push config (place_of config h e) h)
    ∙ ap (map (λ (w : Withdrawal). w.object)) (filter-append (λ w. nat_le (first_unreported h) w.place) (withdrawals config h) (withdrawals_at_end config (place_of config h e ∷ h)))
    ∙ map-append (λ (w : Withdrawal). w.object) (filter (λ w. nat_le (first_unreported h) w.place) (withdrawals config h)) (filter (λ w. nat_le (first_unreported h) w.place) (withdrawals_at_end config (place_of config h e ∷ h)))
    ∙ ap (λ l. map (λ (w : Withdrawal). w.object) (filter (λ w. nat_le (first_unreported h) w.place) (withdrawals config h)) ++ l)
    (ap (map (λ (w : Withdrawal). w.object)) (filter-all (λ w. nat_le (first_unreported h) w.place) (withdrawals_at_end config (place_of config h e ∷ h))
    (every-weaker (λ (w : Withdrawal). w.place ≡ (place_of config h e).index) (λ (w : Withdrawal). nat_le (first_unreported h) w.place ≡ true)
    (λ w a. le-leb (first_unreported h) w.place (let i = index-place_of config h e in let l = untold-within h n in omega arith))
    (withdrawals_at_end config (place_of config h e ∷ h)) (at_place (place_of config h e).index (withdrawn_objects config (place_of config h e ∷ h)))))
    ∙ objects-at (place_of config h e).index (withdrawn_objects config (place_of config h e ∷ h)))

told-after : (config : SpaceConfig) (h : History) (e : Event) → IsNumbered (place_of config h e ∷ h) →
    withdrawn_from (first_unreported (place_of config h e ∷ h)) config (place_of config h e ∷ h)
    ≡ (if is_abandon e.ask then withdrawn_from (first_unreported h) config (place_of config h e ∷ h) else [])
told-after config h e n = go (is_abandon e.ask) (ap is_abandon (ask-place_of config h e)) refl
  where
    go : (b : Bool) → is_abandon (place_of config h e).event.ask ≡ is_abandon e.ask → is_abandon e.ask ≡ b →
        map (λ (w : Withdrawal). w.object) (filter (λ w. nat_le (first_unreported (place_of config h e ∷ h)) w.place) (withdrawals config (place_of config h e ∷ h)))
        ≡ (if b then map (λ (w : Withdrawal). w.object) (filter (λ w. nat_le (first_unreported h) w.place) (withdrawals config (place_of config h e ∷ h))) else [])
    go true p q = rw (p ∙ q) refl
    go false p q =
        ap (map (λ (w : Withdrawal). w.object)) (filter-none (λ w. nat_le (first_unreported (place_of config h e ∷ h)) w.place) (withdrawals config (place_of config h e ∷ h))
        (every-weaker (λ (w : Withdrawal). w.place < length (place_of config h e ∷ h)) (λ (w : Withdrawal). nat_le (first_unreported (place_of config h e ∷ h)) w.place ≡ false)
        (λ w a. rw (p ∙ q) (lt-leb ((place_of config h e).index + 1) w.place (let i = index-place_of config h e in omega arith)))
        (withdrawals config (place_of config h e ∷ h)) (withdrawals-below config (place_of config h e ∷ h) n)))

unreported_objects-since : (config : SpaceConfig) (es : List Event) → unreported_objects config (places_back config es) ≡ withdrawn_from (first_unreported (places_back config es)) config (places_back config es)
unfolding places_back gone_objects
unreported_objects-since config [] = rw withdrawals-none (unreported_objects-none config)
unreported_objects-since config (e ∷ es) =
    let h = places_back config es in
    unreported_objects-push config h e (places_back-numbered config (e ∷ es))
    ∙ ap (λ l. if is_abandon e.ask then l ++ ids (withdrawn_objects config (place_of config h e ∷ h)) else []) (unreported_objects-since config es)
    ∙ ap (λ l. if is_abandon e.ask then l else []) (sym (told-next config h e (places_back-numbered config es)))
    ∙ sym (told-after config h e (places_back-numbered config (e ∷ es)))

-- WHAT A TURN TELLS was withdrawn after the last event that is no Abandon.
pub gone-since : (config : SpaceConfig) (events : List Event) (e : Event) → GoneSinceLast config events e
unfolding places
gone-since config events e =
    let h = places_back config (reverse events) in
    gone_objects-push config h e (places_back-numbered config (reverse events))
    ∙ ap (λ l. l ++ ids (withdrawn_objects config (place_of config h e ∷ h))) (unreported_objects-since config (reverse events))
    ∙ sym (told-next config h e (places_back-numbered config (reverse events)))
