-- Returned references that await their acknowledgement, as moments until which they await, and lists that stand for them.
use Rattle.std.proofs.Common.{◌≡◌, ℕ, ◌+◌, ◌<◌, ◌≤◌, inl, inr, List, [], ◌∷◌, ◌++◌, length, refl, ap, sym, ◌∙◌, cond, map, max, arith}
use Rattle.std.specs.Prelude.{Bool, true, false, ◌&&◌, ◌||◌, filter, nat_lt, if◌then◌else◌, reverse}
use Rattle.std.specs.List.{list_any}
use Rattle.std.proofs.str.Laws.{order}
use Rattle.std.proofs.lemmas.Bool.{lt-ltb, le-ltb, or_parts}
use Rattle.std.proofs.lemmas.List.Folds.{list_any-append}
use Rattle.object_ids.specs.declared.ids.ObjId.{ObjId}
use Rattle.object_ids.specs.Same.{same_id}
use Rattle.history.specs.declared.asks.SpaceConfig.{SpaceConfig}
use Rattle.history.specs.declared.asks.Event.{Event}
use Rattle.history.specs.declared.places.Place.{Place}
use Rattle.history.specs.declared.places.Returned.{Returned}
use Rattle.history.specs.Awaiting.{same_returned, returns, is_ack_of, awaits, awaiting_references, awaiting_references_to, until_of}
use Rattle.history.specs.Lists.{distinct, AllOnce}
use Rattle.history.specs.Places.{History, now}
use Rattle.history.specs.Table.{place_of, places_back, places}
use Rattle.history.proofs.AwaitingLaws.{returned-equality, awaiting_references-member, awaiting_references-once}
use Rattle.history.proofs.ListLemmas.{IsEquality, AllOnce-distinct, AllOnce-filter, length-members, same_test, and_false, any-filtered, same-turned, no_time, any-distinct}
use Rattle.history.proofs.TableLaws.{IsNumbered, index-place_of, places_back-numbered, moment-place_of, now-push, places-numbered}
use Rattle.export_table.specs.StandsForHistory.{until_in, waits_once, WaitsStand}

-- ---- how many items a list has, each counted once

-- Lists with the same items have as many.
pub distinct-same : {X : Type 0} (same : X → X → Bool) → IsEquality same → (xs ys : List X) → ((k : X) → list_any (same k) xs ≡ list_any (same k) ys) →
    length (distinct same xs) ≡ length (distinct same ys)
distinct-same same e xs ys f =
    length-members same e (distinct same xs) (distinct same ys) (AllOnce-distinct same e xs) (AllOnce-distinct same e ys)
    (λ k. any-distinct e k xs ∙ f k ∙ sym (any-distinct e k ys))

-- ---- until when

pub awaits-until : (ack t : ℕ) (h : History) (r : Returned) → awaits ack t h r ≡ nat_lt t (until_of ack h r)
unfolding awaits
awaits-until ack t h r = refl

-- ONE MORE EVENT: it returns the reference, or acknowledges its return, or neither.
pub until-push : (ack : ℕ) (p : Place) (h : History) (r : Returned) → IsNumbered (p ∷ h) →
    until_of ack (p ∷ h) r ≡ (if returns r p then p.moment + ack else if is_ack_of r.uid p.event.ask then 0 else until_of ack h r)
unfolding until_of
until-push ack p h r n = refl

pub until-none : (ack : ℕ) (r : Returned) → until_of ack [] r ≡ 0
unfolding until_of
until-none ack r = refl

pub numbered-place : (config : SpaceConfig) (events : List Event) (e : Event) → IsNumbered (place_of config (places config events) e ∷ places config events)
numbered-place config events e = (index-place_of config (places config events) e, places-numbered config events)

numbered_back : (config : SpaceConfig) (es : List Event) (e : Event) → IsNumbered (place_of config (places_back config es) e ∷ places_back config es)
numbered_back config es e = (index-place_of config (places_back config es) e, places_back-numbered config es)

-- No reference awaits longer than from now on.
until_back : (ack : ℕ) (config : SpaceConfig) (es : List Event) (r : Returned) → until_of ack (places_back config es) r ≤ now (places_back config es) + ack
unfolding places_back
until_back ack config [] r = let none = until-none ack r in omega arith
until_back ack config (e ∷ es) r =
    let step = until-push ack (place_of config (places_back config es) e) (places_back config es) r (numbered_back config es e) in
    let moment = moment-place_of config (places_back config es) e in
    let time = now-push config (places_back config es) e in
    go (returns r (place_of config (places_back config es) e)) (is_ack_of r.uid (place_of config (places_back config es) e).event.ask) step moment time (until_back ack config es r)
  where
    go : (b c : Bool) → until_of ack (place_of config (places_back config es) e ∷ places_back config es) r ≡ (if b then (place_of config (places_back config es) e).moment + ack else if c then 0 else until_of ack (places_back config es) r) →
        (place_of config (places_back config es) e).moment ≡ max e.moment (now (places_back config es)) → now (place_of config (places_back config es) e ∷ places_back config es) ≡ max e.moment (now (places_back config es)) →
        until_of ack (places_back config es) r ≤ now (places_back config es) + ack →
        until_of ack (place_of config (places_back config es) e ∷ places_back config es) r ≤ now (place_of config (places_back config es) e ∷ places_back config es) + ack
    go true c s m t ih = omega arith
    go false true s m t ih = omega arith
    go false false s m t ih = omega arith

pub until-bound : (ack : ℕ) (config : SpaceConfig) (events : List Event) (r : Returned) → until_of ack (places config events) r ≤ now (places config events) + ack
unfolding places
until-bound ack config events r = until_back ack config (reverse events) r

-- ---- counts, by another list of the same references

pub count-awaiting : (ack t : ℕ) (h : History) (rs : List Returned) → AllOnce same_returned rs → ((r : Returned) → list_any (same_returned r) rs ≡ awaits ack t h r) → length (awaiting_references ack t h) ≡ length rs
count-awaiting ack t h rs once f =
    length-members same_returned returned-equality (awaiting_references ack t h) rs (awaiting_references-once ack t h) once (λ r. awaiting_references-member ack t h r ∙ sym (f r))

pub count-awaiting_of : (ack t : ℕ) (h : History) (o : ObjId) (rs : List Returned) → AllOnce same_returned rs → ((r : Returned) → list_any (same_returned r) rs ≡ awaits ack t h r) →
    length (awaiting_references_to ack t h o) ≡ length (filter (λ r. same_id r.object o) rs)
unfolding awaiting_references_to
count-awaiting_of ack t h o rs once f =
    length-members same_returned returned-equality (filter (λ r. same_id r.object o) (awaiting_references ack t h)) (filter (λ r. same_id r.object o) rs)
    (AllOnce-filter same_returned (λ r. same_id r.object o) (awaiting_references ack t h) (awaiting_references-once ack t h)) (AllOnce-filter same_returned (λ r. same_id r.object o) rs once)
    (λ r. any-filtered returned-equality (λ x. same_id x.object o) r (awaiting_references ack t h) ∙ ap (λ v. v && same_id r.object o) (awaiting_references-member ack t h r ∙ sym (f r)) ∙ sym (any-filtered returned-equality (λ x. same_id x.object o) r rs))

pub count-awaiting-with : (ack t : ℕ) (h : History) (rs more : List Returned) → ((r : Returned) → list_any (same_returned r) rs ≡ awaits ack t h r) →
    length (distinct same_returned (awaiting_references ack t h ++ more)) ≡ length (distinct same_returned (rs ++ more))
count-awaiting-with ack t h rs more f =
    distinct-same same_returned returned-equality (awaiting_references ack t h ++ more) (rs ++ more)
    (λ r. list_any-append (same_returned r) (awaiting_references ack t h) more ∙ ap (λ v. v || list_any (same_returned r) more) (awaiting_references-member ack t h r ∙ sym (f r)) ∙ sym (list_any-append (same_returned r) rs more))

-- ---- lists of waits: each is of a reference, and has a moment until which it waits

pub absent-until : {W : Type 0} (ref : W → Returned) (until : W → ℕ) (r : Returned) (ws : List W) → list_any (λ w. same_returned (ref w) r) ws ≡ false → until_in ref until r ws ≡ 0
absent-until ref until r [] h = refl
absent-until ref until r (w ∷ ws) h = let two = or_parts (same_returned (ref w) r) (list_any (λ v. same_returned (ref v) r) ws) h in rw two.0 (absent-until ref until r ws two.1)

-- Where the first is of the reference, no other is.
pub others-absent : {W : Type 0} (ref : W → Returned) (w : W) (r : Returned) (ws : List W) → same_returned (ref w) r ≡ true → list_any (λ v. same_returned (ref w) (ref v)) ws ≡ false → list_any (λ v. same_returned (ref v) r) ws ≡ false
others-absent ref w r [] e h = refl
others-absent ref w r (v ∷ ws) e h =
    let two = or_parts (same_returned (ref w) (ref v)) (list_any (λ u. same_returned (ref w) (ref u)) ws) h in
    rw (same-turned returned-equality (ref v) r ∙ ap (λ x. same_returned x (ref v)) (sym (returned-equality.equal (ref w) r e)) ∙ two.0) (others-absent ref w r ws e two.1)

-- A reference waits at a moment exactly where its moment comes later.
pub goes-until : {W : Type 0} (ref : W → Returned) (until : W → ℕ) (t : ℕ) (r : Returned) (ws : List W) → waits_once ref ws →
    list_any (λ w. nat_lt t (until w) && same_returned (ref w) r) ws ≡ nat_lt t (until_in ref until r ws)
goes-until ref until t r [] once = sym (no_time t)
goes-until {W} ref until t r (w ∷ ws) once = go (same_returned (ref w) r) refl (goes-until ref until t r ws once.1)
  where
    none : (vs : List W) → list_any (λ v. same_returned (ref v) r) vs ≡ false → list_any (λ v. nat_lt t (until v) && same_returned (ref v) r) vs ≡ false
    none [] h = refl
    none (v ∷ vs) h = let two = or_parts (same_returned (ref v) r) (list_any (λ u. same_returned (ref u) r) vs) h in rw (two.0, and_false (nat_lt t (until v))) (none vs two.1)

    go : (b : Bool) → same_returned (ref w) r ≡ b → list_any (λ v. nat_lt t (until v) && same_returned (ref v) r) ws ≡ nat_lt t (until_in ref until r ws) →
        ((nat_lt t (until w) && b) || list_any (λ v. nat_lt t (until v) && same_returned (ref v) r) ws) ≡ nat_lt t (if b then until w else until_in ref until r ws)
    go true e ih = rw (none ws (others-absent ref w r ws e once.0)) (whole (nat_lt t (until w)))
      where
        whole : (v : Bool) → ((v && true) || false) ≡ v
        whole true = refl
        whole false = refl
    go false e ih = rw (and_false (nat_lt t (until w))) ih

later-time : (m t a b : ℕ) → m ≤ t → max m a ≡ max m b → nat_lt t a ≡ nat_lt t b
later-time m t a b le e = same_test (nat_lt t a) (nat_lt t b) (λ h. lt-ltb t b (let l = less t a h in omega arith)) (λ h. lt-ltb t a (let l = less t b h in omega arith))
  where
    less : (x y : ℕ) → nat_lt x y ≡ true → x < y
    less x y h = elim (order x y) [ inl l ↦ l | inr g ↦ absurd (let f = le-ltb x y g in cc) ]

-- Those that go on in the list are those that await.
pub waits-await : {W : Type 0} (ref : W → Returned) (until : W → ℕ) (ack m t : ℕ) (h : History) (ws : List W) → m ≤ t → WaitsStand ref until ack m h ws → (r : Returned) →
    list_any (λ w. nat_lt t (until w) && same_returned (ref w) r) ws ≡ awaits ack t h r
waits-await ref until ack m t h ws le s r =
    goes-until ref until t r ws s.once ∙ later-time m t (until_in ref until r ws) (until_of ack h r) le (s.each r) ∙ sym (awaits-until ack t h r)

-- As references.
abbrev pub waiting_refs : {W : Type 0} → (W → Returned) → (W → ℕ) → ℕ → List W → List Returned
waiting_refs ref until t ws = map ref (filter (λ w. nat_lt t (until w)) ws)

pub refs-any : {W : Type 0} (ref : W → Returned) (until : W → ℕ) (t : ℕ) (r : Returned) (ws : List W) → list_any (same_returned r) (waiting_refs ref until t ws) ≡ list_any (λ w. nat_lt t (until w) && same_returned (ref w) r) ws
refs-any ref until t r [] = refl
refs-any {W} ref until t r (w ∷ ws) = go (nat_lt t (until w)) (refs-any ref until t r ws)
  where
    go : (b : Bool) → list_any (same_returned r) (waiting_refs ref until t ws) ≡ list_any (λ v. nat_lt t (until v) && same_returned (ref v) r) ws →
        list_any (same_returned r) (map ref (cond b (w ∷ filter (λ v. nat_lt t (until v)) ws) (filter (λ v. nat_lt t (until v)) ws))) ≡ ((b && same_returned (ref w) r) || list_any (λ v. nat_lt t (until v) && same_returned (ref v) r) ws)
    go true e = rw (same-turned returned-equality r (ref w), e) refl
    go false e = e

refs-once : {W : Type 0} (ref : W → Returned) (ws : List W) → waits_once ref ws → AllOnce same_returned (map ref ws)
refs-once ref [] once = tt
refs-once {W} ref (w ∷ ws) once = (moved ws once.0, refs-once ref ws once.1)
  where
    moved : (vs : List W) → list_any (λ v. same_returned (ref w) (ref v)) vs ≡ false → list_any (same_returned (ref w)) (map ref vs) ≡ false
    moved [] h = refl
    moved (v ∷ vs) h = let two = or_parts (same_returned (ref w) (ref v)) (list_any (λ u. same_returned (ref w) (ref u)) vs) h in rw (two.0, moved vs two.1) refl

pub refs-await : {W : Type 0} (ref : W → Returned) (until : W → ℕ) (ack m t : ℕ) (h : History) (ws : List W) → m ≤ t → WaitsStand ref until ack m h ws → (r : Returned) →
    list_any (same_returned r) (waiting_refs ref until t ws) ≡ awaits ack t h r
refs-await ref until ack m t h ws le s r = refs-any ref until t r ws ∙ waits-await ref until ack m t h ws le s r

pub refs-waiting-once : {W : Type 0} (ref : W → Returned) (until : W → ℕ) (t : ℕ) (ws : List W) → waits_once ref ws → AllOnce same_returned (waiting_refs ref until t ws)
refs-waiting-once ref until t ws once = refs-once ref (filter (λ w. nat_lt t (until w)) ws) (AllOnce-filter (λ a b. same_returned (ref a) (ref b)) (λ w. nat_lt t (until w)) ws once)
