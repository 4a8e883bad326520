-- What an event does to a list of waits that stands for a history's.
use Rattle.std.proofs.Common.{◌≡◌, ℕ, ◌+◌, ◌≤◌, inl, inr, List, [], ◌∷◌, ◌++◌, refl, ap, sym, ◌∙◌, cond, max, arith, Some}
use Rattle.std.specs.Prelude.{Bool, true, false, ◌||◌, not, filter, find, nat_lt, if◌then◌else◌, option_map, option_to_list, unwrap_or, flat_map, map}
use Rattle.std.specs.List.{list_any}
use Rattle.std.proofs.str.Laws.{order}
use Rattle.std.proofs.lemmas.Bool.{lt-ltb, or_parts}
use Rattle.std.proofs.lemmas.List.Folds.{list_any-append}
use Rattle.object_ids.specs.declared.ids.Uid.{Uid}
use Rattle.object_ids.specs.Same.{same_uid}
use Rattle.object_ids.proofs.Exact.{same_uid-equal, same_uid-self}
use Rattle.history.specs.declared.asks.SpaceConfig.{SpaceConfig}
use Rattle.history.specs.declared.asks.Event.{Event}
use Rattle.history.specs.declared.asks.Ask.TheVariants.{Ack}
use Rattle.history.specs.declared.places.Returned.{Returned}
use Rattle.history.specs.Awaiting.{same_returned, returned_references, returns, return_uid, is_ack_of, until_of}
use Rattle.history.specs.Places.{now}
use Rattle.history.specs.Table.{place_of, places}
use Rattle.history.proofs.AwaitingLaws.{returned-equality}
use Rattle.history.proofs.ListLemmas.{AllOnce-filter, same-turned}
use Rattle.history.proofs.TableLaws.{moment-place_of, ask-place_of}
use Rattle.export_table.specs.StandsForHistory.{until_in, waits_once, WaitsFor, WaitsStand}
use Rattle.export_table.proofs.WaitLaws.{until-push, until-bound, absent-until, others-absent, numbered-place}

-- The same moment, by the first wait that is of the reference.
pub until_in-find : {W : Type 0} (ref : W → Returned) (until : W → ℕ) (r : Returned) (ws : List W) →
    until_in ref until r ws ≡ unwrap_or (option_map until (find (λ w. same_returned (ref w) r) ws)) 0
until_in-find ref until r [] = refl
until_in-find {W} ref until r (w ∷ ws) = go (same_returned (ref w) r) (until_in-find ref until r ws)
  where
    go : (b : Bool) → until_in ref until r ws ≡ unwrap_or (option_map until (find (λ v. same_returned (ref v) r) ws)) 0 →
        (if b then until w else until_in ref until r ws) ≡ unwrap_or (option_map until (cond b (Some w) (find (λ v. same_returned (ref v) r) ws))) 0
    go true e = refl
    go false e = e

-- ---- time passes

max-later : (m n a b : ℕ) → m ≤ n → max m a ≡ max m b → max n a ≡ max n b
max-later m n a b le e = omega arith

pub waits-later : {W : Type 0} (ref : W → Returned) (until : W → ℕ) (m n : ℕ) (f : Returned → ℕ) (ws : List W) → m ≤ n → WaitsFor ref until m f ws → WaitsFor ref until n f ws
waits-later ref until m n f ws le s = record { once = s.once; each = λ r. max-later m n (until_in ref until r ws) (f r) le (s.each r) }

-- Those that ended are forgotten.
abbrev pub going : {W : Type 0} → (W → ℕ) → ℕ → List W → List W
going until m ws = filter (λ w. nat_lt m (until w)) ws

filter-absent : {W : Type 0} (p q : W → Bool) (ws : List W) → list_any p ws ≡ false → list_any p (filter q ws) ≡ false
filter-absent p q [] h = refl
filter-absent p q (w ∷ ws) h = let two = or_parts (p w) (list_any p ws) h in go (q w) two.0 (filter-absent p q ws two.1)
  where
    go : (b : Bool) → p w ≡ false → list_any p (filter q ws) ≡ false → list_any p (cond b (w ∷ filter q ws) (filter q ws)) ≡ false
    go true x y = rw (x, y) refl
    go false x y = y

pub going-until : {W : Type 0} (ref : W → Returned) (until : W → ℕ) (m : ℕ) (r : Returned) (ws : List W) → waits_once ref ws → max m (until_in ref until r (going until m ws)) ≡ max m (until_in ref until r ws)
going-until ref until m r [] once = refl
going-until {W} ref until m r (w ∷ ws) once = go (nat_lt m (until w)) (same_returned (ref w) r) refl refl (going-until ref until m r ws once.1)
  where
    ended : nat_lt m (until w) ≡ false → until w ≤ m
    ended e = elim (order m (until w)) [ inl l ↦ absurd (let f = lt-ltb m (until w) l in cc) | inr g ↦ g ]

    go : (b c : Bool) → nat_lt m (until w) ≡ b → same_returned (ref w) r ≡ c → max m (until_in ref until r (going until m ws)) ≡ max m (until_in ref until r ws) →
        max m (until_in ref until r (cond b (w ∷ going until m ws) (going until m ws))) ≡ max m (if c then until w else until_in ref until r ws)
    go true true e f ih = rw f refl
    go true false e f ih = rw f ih
    go false false e f ih = ih
    go false true e f ih =
        let none = absent-until ref until r (going until m ws) (filter-absent (λ v. same_returned (ref v) r) (λ v. nat_lt m (until v)) ws (others-absent ref w r ws f once.0)) in
        let early = ended e in
        omega (arith, none, early)

-- ---- a reference is returned

abbrev pub but : {W : Type 0} → (W → Returned) → Returned → List W → List W
but ref r ws = filter (λ w. not (same_returned (ref w) r)) ws

-- The list once a reference is returned at the moment m: it waits for `ack` from then on, and no shorter than before.
abbrev pub listed : {W : Type 0} → (W → Returned) → (W → ℕ) → (Returned → ℕ → W) → ℕ → ℕ → Returned → List W → List W
listed ref until make ack m r ws = but ref r (going until m ws) ++ make r (max (m + ack) (until_in ref until r ws)) ∷ []

but-other : {W : Type 0} (ref : W → Returned) (until : W → ℕ) (r s : Returned) (ws : List W) → same_returned r s ≡ false → until_in ref until s (but ref r ws) ≡ until_in ref until s ws
but-other ref until r s [] e = refl
but-other {W} ref until r s (w ∷ ws) e = go (same_returned (ref w) r) (same_returned (ref w) s) refl refl (but-other ref until r s ws e)
  where
    go : (b c : Bool) → same_returned (ref w) r ≡ b → same_returned (ref w) s ≡ c → until_in ref until s (but ref r ws) ≡ until_in ref until s ws →
        until_in ref until s (cond (not b) (w ∷ but ref r ws) (but ref r ws)) ≡ (if c then until w else until_in ref until s ws)
    go false c f g ih = rw (g, ih) refl
    go true false f g ih = ih
    go true true f g ih = absurd (let moved : same_returned r s ≡ true = ap (λ x. same_returned x s) (sym (returned-equality.equal (ref w) r f)) ∙ g in cc)

but-none : {W : Type 0} (ref : W → Returned) (r : Returned) (ws : List W) → list_any (λ w. same_returned (ref w) r) (but ref r ws) ≡ false
but-none ref r [] = refl
but-none {W} ref r (w ∷ ws) = go (same_returned (ref w) r) refl (but-none ref r ws)
  where
    go : (b : Bool) → same_returned (ref w) r ≡ b → list_any (λ v. same_returned (ref v) r) (but ref r ws) ≡ false → list_any (λ v. same_returned (ref v) r) (cond (not b) (w ∷ but ref r ws) (but ref r ws)) ≡ false
    go true e ih = ih
    go false e ih = rw (e, ih) refl

until-last : {W : Type 0} (ref : W → Returned) (until : W → ℕ) (s : Returned) (ws : List W) (w : W) → list_any (λ v. same_returned (ref v) s) ws ≡ false → until_in ref until s (ws ++ w ∷ []) ≡ (if same_returned (ref w) s then until w else 0)
until-last ref until s [] w h = refl
until-last ref until s (v ∷ ws) w h = let two = or_parts (same_returned (ref v) s) (list_any (λ u. same_returned (ref u) s) ws) h in rw two.0 (until-last ref until s ws w two.1)

until-before : {W : Type 0} (ref : W → Returned) (until : W → ℕ) (s : Returned) (ws : List W) (w : W) → same_returned (ref w) s ≡ false → until_in ref until s (ws ++ w ∷ []) ≡ until_in ref until s ws
until-before ref until s [] w h = rw h refl
until-before ref until s (v ∷ ws) w h = ap (λ n. if same_returned (ref v) s then until v else n) (until-before ref until s ws w h)

once-last : {W : Type 0} (ref : W → Returned) (ws : List W) (w : W) → waits_once ref ws → list_any (λ v. same_returned (ref v) (ref w)) ws ≡ false → waits_once ref (ws ++ w ∷ [])
once-last ref [] w once h = (refl, tt)
once-last {W} ref (v ∷ ws) w once h =
    let two = or_parts (same_returned (ref v) (ref w)) (list_any (λ u. same_returned (ref u) (ref w)) ws) h in
    (list_any-append (λ u. same_returned (ref v) (ref u)) ws (w ∷ []) ∙ rw (once.0, two.0) refl, once-last ref ws w once.1 two.1)

-- Each stays there once.
pub listed-once : {W : Type 0} (ref : W → Returned) (until : W → ℕ) (make : Returned → ℕ → W) (ack m : ℕ) (r : Returned) (ws : List W) → ((s : Returned) (n : ℕ) → ref (make s n) ≡ s) → waits_once ref ws →
    waits_once ref (listed ref until make ack m r ws)
listed-once ref until make ack m r ws is once =
    once-last ref (but ref r (going until m ws)) (make r (max (m + ack) (until_in ref until r ws)))
    (AllOnce-filter (λ a b. same_returned (ref a) (ref b)) (λ v. not (same_returned (ref v) r)) (going until m ws) (AllOnce-filter (λ a b. same_returned (ref a) (ref b)) (λ v. nat_lt m (until v)) ws once))
    (ap (λ x. list_any (λ v. same_returned (ref v) x) (but ref r (going until m ws))) (is r (max (m + ack) (until_in ref until r ws))) ∙ but-none ref r (going until m ws))

-- ONE MORE WAIT.
pub waits-listed : {W : Type 0} (ref : W → Returned) (until : W → ℕ) (make : Returned → ℕ → W) (ack m : ℕ) (f : Returned → ℕ) (r : Returned) (ws : List W) →
    ((s : Returned) (n : ℕ) → ref (make s n) ≡ s) → ((s : Returned) (n : ℕ) → until (make s n) ≡ n) → f r ≤ m + ack → WaitsFor ref until m f ws →
    WaitsFor ref until m (λ s. if same_returned r s then m + ack else f s) (listed ref until make ack m r ws)
waits-listed {W} ref until make ack m f r ws is at bound w = record {
  once = listed-once ref until make ack m r ws is w.once;
  each = λ s. each s (same_returned r s) refl;
}
  where
    k : ℕ
    k = max (m + ack) (until_in ref until r ws)

    new_until : (v : ℕ) → v ≡ max (m + ack) (until_in ref until r ws) → max m (until_in ref until r ws) ≡ max m (f r) → max m v ≡ max m (m + ack)
    new_until v e h = omega (arith, e, h, bound)

    each : (s : Returned) (b : Bool) → same_returned r s ≡ b → max m (until_in ref until s (listed ref until make ack m r ws)) ≡ max m (if b then m + ack else f s)
    each s true e =
        ap (max m) (
        until-last ref until s (but ref r (going until m ws)) (make r k) (ap (λ x. list_any (λ v. same_returned (ref v) x) (but ref r (going until m ws))) (sym (returned-equality.equal r s e)) ∙ but-none ref r (going until m ws))
        ∙ ap (λ v. if v then until (make r k) else 0) (ap (λ x. same_returned x s) (is r k) ∙ e))
        ∙ new_until (until (make r k)) (at r k) (w.each r)
    each s false e =
        ap (max m) (until-before ref until s (but ref r (going until m ws)) (make r k) (ap (λ x. same_returned x s) (is r k) ∙ e) ∙ but-other ref until r s (going until m ws) e)
        ∙ going-until ref until m s ws w.once ∙ w.each s

-- Several, one after another.
abbrev pub listed_all : {W : Type 0} → (W → Returned) → (W → ℕ) → (Returned → ℕ → W) → ℕ → ℕ → List Returned → List W → List W
listed_all ref until make ack m [] ws = ws
listed_all ref until make ack m (r ∷ rs) ws = listed_all ref until make ack m rs (listed ref until make ack m r ws)

pub waits-listed_all : {W : Type 0} (ref : W → Returned) (until : W → ℕ) (make : Returned → ℕ → W) (ack m : ℕ) (f : Returned → ℕ) (rs : List Returned) (ws : List W) →
    ((s : Returned) (n : ℕ) → ref (make s n) ≡ s) → ((s : Returned) (n : ℕ) → until (make s n) ≡ n) → ((s : Returned) → f s ≤ m + ack) → WaitsFor ref until m f ws →
    WaitsFor ref until m (λ s. if list_any (same_returned s) rs then m + ack else f s) (listed_all ref until make ack m rs ws)
waits-listed_all ref until make ack m f [] ws is at bound w = w
waits-listed_all {W} ref until make ack m f (r ∷ rs) ws is at bound w =
    let rest = waits-listed_all ref until make ack m (λ s. if same_returned r s then m + ack else f s) rs (listed ref until make ack m r ws) is at (λ s. one s (same_returned r s)) (waits-listed ref until make ack m f r ws is at (bound r) w) in
    record { once = rest.once; each = λ s. rest.each s ∙ ap (max m) (both s (list_any (same_returned s) rs) (same_returned r s) refl) }
  where
    one : (s : Returned) (b : Bool) → (if b then m + ack else f s) ≤ m + ack
    one s true = omega arith
    one s false = bound s

    both : (s : Returned) (a b : Bool) → same_returned r s ≡ b → (if a then m + ack else (if b then m + ack else f s)) ≡ (if same_returned s r || a then m + ack else f s)
    both s a b e = rw (same-turned returned-equality s r ∙ e) (go a b)
      where
        go : (x y : Bool) → (if x then m + ack else (if y then m + ack else f s)) ≡ (if y || x then m + ack else f s)
        go true true = refl
        go true false = refl
        go false true = refl
        go false false = refl

-- ---- a return is acknowledged

abbrev pub acknowledged : {W : Type 0} → (W → Returned) → Uid → List W → List W
acknowledged ref u ws = filter (λ w. not (same_uid (ref w).uid u)) ws

uid-of : (a b : Returned) → same_returned a b ≡ true → a.uid ≡ b.uid
uid-of a b e = ap (λ (x : Returned). x.uid) (returned-equality.equal a b e)

acknowledged-until : {W : Type 0} (ref : W → Returned) (until : W → ℕ) (u : Uid) (r : Returned) (ws : List W) → until_in ref until r (acknowledged ref u ws) ≡ (if same_uid r.uid u then 0 else until_in ref until r ws)
acknowledged-until ref until u r [] = nothing (same_uid r.uid u)
  where
    nothing : (b : Bool) → ◌≡◌ {A = ℕ} 0 (if b then 0 else 0)
    nothing true = refl
    nothing false = refl
acknowledged-until {W} ref until u r (w ∷ ws) = go (same_uid (ref w).uid u) (same_returned (ref w) r) refl refl (acknowledged-until ref until u r ws)
  where
    moved : same_returned (ref w) r ≡ true → same_uid (ref w).uid u ≡ same_uid r.uid u
    moved e = ap (λ x. same_uid x u) (uid-of (ref w) r e)

    go : (b c : Bool) → same_uid (ref w).uid u ≡ b → same_returned (ref w) r ≡ c → until_in ref until r (acknowledged ref u ws) ≡ (if same_uid r.uid u then 0 else until_in ref until r ws) →
        until_in ref until r (cond (not b) (w ∷ acknowledged ref u ws) (acknowledged ref u ws)) ≡ (if same_uid r.uid u then 0 else (if c then until w else until_in ref until r ws))
    go true true e f ih = ih ∙ rw (sym (moved f) ∙ e) refl
    go true false e f ih = ih
    go false true e f ih = rw (f, sym (moved f) ∙ e) refl
    go false false e f ih = rw f ih

pub waits-acknowledged : {W : Type 0} (ref : W → Returned) (until : W → ℕ) (m : ℕ) (f : Returned → ℕ) (u : Uid) (ws : List W) → WaitsFor ref until m f ws →
    WaitsFor ref until m (λ r. if same_uid r.uid u then 0 else f r) (acknowledged ref u ws)
waits-acknowledged ref until m f u ws w = record {
  once = AllOnce-filter (λ a b. same_returned (ref a) (ref b)) (λ v. not (same_uid (ref v).uid u)) ws w.once;
  each = λ r. ap (max m) (acknowledged-until ref until u r ws) ∙ go r (same_uid r.uid u);
}
  where
    go : (r : Returned) (b : Bool) → max m (if b then 0 else until_in ref until r ws) ≡ max m (if b then 0 else f r)
    go r true = refl
    go r false = w.each r

-- ---- ONE MORE EVENT

waits-same : {W : Type 0} (ref : W → Returned) (until : W → ℕ) (m : ℕ) (f g : Returned → ℕ) (ws : List W) → ((r : Returned) → f r ≡ g r) → WaitsFor ref until m f ws → WaitsFor ref until m g ws
waits-same ref until m f g ws h w = record { once = w.once; each = λ r. w.each r ∙ ap (max m) (h r) }

-- An event that is no acknowledgement lists what it returns.
pub waits-push : {W : Type 0} (ref : W → Returned) (until : W → ℕ) (make : Returned → ℕ → W) (config : SpaceConfig) (events : List Event) (e : Event) (ws : List W) →
    ((s : Returned) (n : ℕ) → ref (make s n) ≡ s) → ((s : Returned) (n : ℕ) → until (make s n) ≡ n) →
    ((u : Uid) → is_ack_of u (place_of config (places config events) e).event.ask ≡ false) → WaitsStand ref until config.ack_ms (now (places config events)) (places config events) ws →
    WaitsStand ref until config.ack_ms (max e.moment (now (places config events))) (place_of config (places config events) e ∷ places config events)
    (listed_all ref until make config.ack_ms (max e.moment (now (places config events))) (returned_references (place_of config (places config events) e)) ws)
waits-push ref until make config events e ws is at other w =
    let m : ℕ = max e.moment (now (places config events)) in
    let late : now (places config events) ≤ max e.moment (now (places config events)) = omega arith in
    let before = waits-later ref until (now (places config events)) (max e.moment (now (places config events))) (until_of config.ack_ms (places config events)) ws late w in
    let all = waits-listed_all ref until make config.ack_ms (max e.moment (now (places config events))) (until_of config.ack_ms (places config events)) (returned_references (place_of config (places config events) e)) ws is at
    (λ s. let b = until-bound config.ack_ms config events s in omega arith) before in
    waits-same ref until (max e.moment (now (places config events)))
    (λ s. if list_any (same_returned s) (returned_references (place_of config (places config events) e)) then max e.moment (now (places config events)) + config.ack_ms else until_of config.ack_ms (places config events) s)
    (until_of config.ack_ms (place_of config (places config events) e ∷ places config events))
    (listed_all ref until make config.ack_ms (max e.moment (now (places config events))) (returned_references (place_of config (places config events) e)) ws)
    (λ s. sym (until-push config.ack_ms (place_of config (places config events) e) (places config events) s (numbered-place config events e)
    ∙ ap (λ b. if returns s (place_of config (places config events) e) then (place_of config (places config events) e).moment + config.ack_ms else if b then 0 else until_of config.ack_ms (places config events) s) (other s.uid)
    ∙ ap (λ n. if returns s (place_of config (places config events) e) then n + config.ack_ms else until_of config.ack_ms (places config events) s) (moment-place_of config (places config events) e)))
    all

-- An acknowledgement ends the waits of its return.
pub waits-push-ack : {W : Type 0} (ref : W → Returned) (until : W → ℕ) (config : SpaceConfig) (events : List Event) (e : Event) (u : Uid) (ws : List W) → e.ask ≡ Ack u →
    WaitsStand ref until config.ack_ms (now (places config events)) (places config events) ws →
    WaitsStand ref until config.ack_ms (max e.moment (now (places config events))) (place_of config (places config events) e ∷ places config events) (acknowledged ref u ws)
waits-push-ack ref until config events e u ws asked w =
    let late : now (places config events) ≤ max e.moment (now (places config events)) = omega arith in
    let before = waits-later ref until (now (places config events)) (max e.moment (now (places config events))) (until_of config.ack_ms (places config events)) ws late w in
    waits-same ref until (max e.moment (now (places config events)))
    (λ r. if same_uid r.uid u then 0 else until_of config.ack_ms (places config events) r)
    (until_of config.ack_ms (place_of config (places config events) e ∷ places config events)) (acknowledged ref u ws)
    (λ s. sym (until-push config.ack_ms (place_of config (places config events) e) (places config events) s (numbered-place config events e)
    ∙ ap (λ b. if b then (place_of config (places config events) e).moment + config.ack_ms else if is_ack_of s.uid (place_of config (places config events) e).event.ask then 0 else until_of config.ack_ms (places config events) s) (silent s)
    ∙ ap (λ b. if b then 0 else until_of config.ack_ms (places config events) s) (acks s)))
    (waits-acknowledged ref until (max e.moment (now (places config events))) (until_of config.ack_ms (places config events)) u ws before)
  where
    ask : (place_of config (places config events) e).event.ask ≡ Ack u
    ask = ask-place_of config (places config events) e ∙ asked

    silent : (s : Returned) → returns s (place_of config (places config events) e) ≡ false
    silent s = ap (λ a. list_any (same_returned s) (flat_map (λ v. map (λ o. record { object = o; uid = v }) (place_of config (places config events) e).returned_here) (option_to_list (return_uid a)))) ask

    uid-turned : (a b : Uid) → same_uid a b ≡ same_uid b a
    uid-turned a b = same-turned (record { equal = same_uid-equal; self = same_uid-self }) a b

    acks : (s : Returned) → is_ack_of s.uid (place_of config (places config events) e).event.ask ≡ same_uid s.uid u
    acks s = ap (is_ack_of s.uid) ask ∙ uid-turned u s.uid
