-- Objects of the table, generic in the ask: what keeps an object is in the table, new objects are nowhere before, and what leaves the table.
use Rattle.std.proofs.Common.{◌≡◌, ℕ, ◌≤◌, inl, inr, List, [], ◌∷◌, ◌++◌, refl, ap, sym, ◌∙◌, cond, map, arith, Option, Some, None}
use Rattle.std.specs.Prelude.{Bool, true, false, ◌&&◌, ◌||◌, filter, nat_lt, if◌then◌else◌, is_some, option_to_list, flat_map}
use Rattle.std.specs.List.{list_any}
use Rattle.std.proofs.lemmas.Bool.{and_parts, or_left, or_right, or_cases}
use Rattle.std.proofs.lemmas.List.Folds.{list_any-append}
use Rattle.object_ids.specs.declared.ids.Uid.{Uid}
use Rattle.object_ids.specs.declared.ids.ObjId.{ObjId}
use Rattle.object_ids.specs.Same.{same_id, same_uid}
use Rattle.object_ids.proofs.Exact.{same_id-equal, same_id-self}
use Rattle.history.specs.declared.asks.SpaceConfig.{SpaceConfig}
use Rattle.history.specs.declared.asks.Event.{Event}
use Rattle.history.specs.declared.asks.Ask.{Ask}
use Rattle.history.specs.declared.asks.Ask.TheVariants.{Finish, Lookup}
use Rattle.history.specs.declared.places.Place.{Place}
use Rattle.history.specs.declared.places.Exported.{Exported}
use Rattle.history.specs.declared.places.Returned.{Returned}
use Rattle.history.specs.Awaiting.{same_returned, returns, return_uid, is_ack_of, awaits, awaiting_references, is_awaited, until_of}
use Rattle.history.specs.LeaseCalls.{lease_calls}
use Rattle.history.specs.Leases.{is_held}
use Rattle.history.specs.Lists.{option_any}
use Rattle.history.specs.Names.{stands_for, names, is_name_of, is_named}
use Rattle.history.specs.Places.{History, has, now}
use Rattle.history.specs.Running.{running_calls_by}
use Rattle.history.specs.Table.{is_kept_locally, is_kept, table, is_effective, exports, returned_objects, place_of, places}
use Rattle.history.proofs.AwaitingLaws.{returned-equality, awaits-acknowledged, awaits-passed, awaits-none, awaiting_references-member}
use Rattle.history.proofs.TableLaws.{places-push, places-none, now-push}
use Rattle.dgc_server.proofs.Steps.{earlier}
use Rattle.space.proofs.Named.{any-ids}
use Rattle.history.proofs.NamedLaws.{by-events, stays, in-front, named-exported}
use Rattle.export_table.proofs.WaitLaws.{awaits-until, numbered-place}

-- ---- names stand for objects of the table

any-at : {X : Type 0} (same : X → X → Bool) → ((a b : X) → same a b ≡ true → a ≡ b) → (test : X → Bool) (n : X) (xs : List X) → list_any (same n) xs ≡ true → test n ≡ true → list_any test xs ≡ true
any-at same equal test n [] h t = absurd (cc)
any-at same equal test n (x ∷ xs) h t = elim (or_cases (same n x) (list_any (same n) xs) h) [
  | inl here ↦ or_left (test x) (list_any test xs) (ap test (sym (equal n x here)) ∙ t)
  | inr there ↦ or_right (test x) (list_any test xs) (any-at same equal test n xs there t)
]

pub named-there : (config : SpaceConfig) (events : List Event) (o : ObjId) → is_named (places config events) o ≡ true → has (table config (places config events)) o ≡ true
unfolding is_named
named-there config events o h = go (names (places config events)) h
  where
    one : (n : List ℕ) (s : Option ObjId) → stands_for (places config events) n ≡ s → option_any (λ x. same_id x o) s ≡ true → has (table config (places config events)) o ≡ true
    one n None e t = absurd (cc)
    one n (Some x) e t = ap (has (table config (places config events))) (sym (same_id-equal x o t)) ∙ named-exported config events n x e

    go : (ns : List (List ℕ)) → list_any (is_name_of (places config events) o) ns ≡ true → has (table config (places config events)) o ≡ true
    go [] t = absurd (cc)
    go (n ∷ ns) t = elim (or_cases (is_name_of (places config events) o n) (list_any (is_name_of (places config events) o) ns) t) [
      | inl here ↦ one n (stands_for (places config events) n) refl here
      | inr there ↦ go ns there
    ]

-- ---- references await of objects of the table

kept-awaited : (config : SpaceConfig) (h : History) (x : Exported) → is_awaited config.ack_ms (now h) h x.id ≡ true → is_kept config h x ≡ true
unfolding is_kept
kept-awaited config h x a = rw a (go (is_kept_locally h x) (is_held config.lease_ms (now h) (lease_calls h) x.id))
  where
    go : (a b : Bool) → (a || true || b) ≡ true
    go true b = refl
    go false b = refl

awaited-by : (ack t : ℕ) (h : History) (r : Returned) → awaits ack t h r ≡ true → is_awaited ack t h r.object ≡ true
unfolding is_awaited
awaited-by ack t h r a = any-at same_returned returned-equality.equal (λ s. same_id s.object r.object) r (awaiting_references ack t h) (awaiting_references-member ack t h r ∙ a) (same_id-self r.object)

pub exported-ids : (o : ObjId) (xs : List Exported) → list_any (same_id o) (map (λ x. x.id) xs) ≡ true → has xs o ≡ true
exported-ids o xs h = sym (any-ids xs o) ∙ h

pub filter-there : (objects : List Exported) (o : ObjId) (os : List ObjId) → list_any (same_id o) (filter (has objects) os) ≡ true → has objects o ≡ true
filter-there objects o [] h = absurd (cc)
filter-there objects o (y ∷ os) h = go (has objects y) refl h (filter-there objects o os)
  where
    go : (b : Bool) → has objects y ≡ b → list_any (same_id o) (cond b (y ∷ filter (has objects) os) (filter (has objects) os)) ≡ true → (list_any (same_id o) (filter (has objects) os) ≡ true → has objects o ≡ true) → has objects o ≡ true
    go false e t rest = rest t
    go true e t rest = elim (or_cases (same_id o y) (list_any (same_id o) (filter (has objects) os)) t) [
      | inl here ↦ ap (has objects) (same_id-equal o y here) ∙ e
      | inr there ↦ rest there
    ]

-- What a place returns is in the table before it, or new.
listed-there : (config : SpaceConfig) (events : List Event) (e : Event) (o : ObjId) → list_any (same_id o) (place_of config (places config events) e).returned_here ≡ true →
    has (table config (places config events) ++ (place_of config (places config events) e).exported_here) o ≡ true
unfolding place_of is_effective returned_objects
listed-there config events e o h = go e.ask h
  where
    nowhere : (b : Bool) → list_any (same_id o) (if b then [] else []) ≡ true → ⊥
    nowhere true t = cc
    nowhere false t = cc

    finish : (b : Bool) (new : List Exported) (listed : List ObjId) →
        list_any (same_id o) (if b then map (λ x. x.id) new ++ filter (has (table config (places config events))) listed else []) ≡ true →
        has (table config (places config events) ++ (if b then new else [])) o ≡ true
    finish false new listed t = absurd (cc)
    finish true new listed t =
        list_any-append (λ (x : Exported). same_id x.id o) (table config (places config events)) new
        ∙ elim (or_cases (list_any (same_id o) (map (λ x. x.id) new)) (list_any (same_id o) (filter (has (table config (places config events))) listed))
        (sym (list_any-append (same_id o) (map (λ x. x.id) new) (filter (has (table config (places config events))) listed)) ∙ t)) [
          | inl here ↦ or_right (has (table config (places config events)) o) (has new o) (exported-ids o new here)
          | inr there ↦ or_left (has (table config (places config events)) o) (has new o) (filter-there (table config (places config events)) o listed there)
        ]

    looked : (s : Option ObjId) (n : List ℕ) → stands_for (places config events) n ≡ s → list_any (same_id o) (if is_some s then option_to_list s else []) ≡ true → has (table config (places config events)) o ≡ true
    looked None n e t = absurd (cc)
    looked (Some x) n e t = elim (or_cases (same_id o x) false t) [
      | inl here ↦ named-exported config events n o (e ∙ ap (λ y. Some y) (sym (same_id-equal o x here)))
      | inr never ↦ absurd (cc)
    ]

    go : (a : Ask) → list_any (same_id o) (place_of config (places config events) (record e { ask = a })).returned_here ≡ true →
        has (table config (places config events) ++ (place_of config (places config events) (record e { ask = a })).exported_here) o ≡ true
    go (Finish x made listed uid) t = finish (nat_lt 0 (running_calls_by (places config events) e.by x)) (exports config (places config events) (Finish x made listed uid)) listed t
    go (Lookup n uid) t = in-front (table config (places config events)) (place_of config (places config events) (record e { ask = Lookup n uid })).exported_here o (looked (stands_for (places config events) n) n refl t)
    go a t = absurd (nowhere (place_of config (places config events) (record e { ask = a })).effective t)

returned-listed : (p : Place) (r : Returned) → returns r p ≡ true → list_any (same_id r.object) p.returned_here ≡ true
returned-listed p r t = go (return_uid p.event.ask) t
  where
    one : (u : Uid) (os : List ObjId) → list_any (same_returned r) (map (λ o. record { object = o; uid = u }) os) ≡ true → list_any (same_id r.object) os ≡ true
    one u [] h = absurd (cc)
    one u (o ∷ os) h = elim (or_cases (same_id r.object o && same_uid r.uid u) (list_any (same_returned r) (map (λ x. record { object = x; uid = u }) os)) h) [
      | inl here ↦ or_left (same_id r.object o) (list_any (same_id r.object) os) (and_parts (same_id r.object o) (same_uid r.uid u) here).0
      | inr there ↦ or_right (same_id r.object o) (list_any (same_id r.object) os) (one u os there)
    ]

    go : (u : Option Uid) → list_any (same_returned r) (flat_map (λ v. map (λ o. record { object = o; uid = v }) p.returned_here) (option_to_list u)) ≡ true → list_any (same_id r.object) p.returned_here ≡ true
    go None h = absurd (cc)
    go (Some u) h = one u p.returned_here (sym (whole (map (λ o. record { object = o; uid = u }) p.returned_here)) ∙ h)
      where
        whole : (rs : List Returned) → list_any (same_returned r) (rs ++ []) ≡ list_any (same_returned r) rs
        whole rs = list_any-append (same_returned r) rs [] ∙ right (list_any (same_returned r) rs)
          where
            right : (b : Bool) → (b || false) ≡ b
            right true = refl
            right false = refl

pub awaits-earlier : (ack t u : ℕ) (h : History) (r : Returned) → t ≤ u → awaits ack u h r ≡ true → awaits ack t h r ≡ true
awaits-earlier ack t u h r le a = awaits-until ack t h r ∙ earlier t u (until_of ack h r) le (sym (awaits-until ack u h r) ∙ a)

pub awaited-there : (config : SpaceConfig) (events : List Event) (r : Returned) → awaits config.ack_ms (now (places config events)) (places config events) r ≡ true → has (table config (places config events)) r.object ≡ true
awaited-there config = by-events
    (λ events. (r : Returned) → awaits config.ack_ms (now (places config events)) (places config events) r ≡ true → has (table config (places config events)) r.object ≡ true) none more
  where
    none : (r : Returned) → awaits config.ack_ms (now (places config [])) (places config []) r ≡ true → has (table config (places config [])) r.object ≡ true
    none r a = absurd (let nothing = ap (λ h. awaits config.ack_ms (now h) h r) (places-none config) ∙ awaits-none config.ack_ms (now []) r in cc)

    more : (events : List Event) (e : Event) → ((r : Returned) → awaits config.ack_ms (now (places config events)) (places config events) r ≡ true → has (table config (places config events)) r.object ≡ true) →
        (r : Returned) → awaits config.ack_ms (now (places config (events ++ e ∷ []))) (places config (events ++ e ∷ [])) r ≡ true → has (table config (places config (events ++ e ∷ []))) r.object ≡ true
    more events e ih r a =
        ap (λ h. has (table config h) r.object) (places-push config events e)
        ∙ stays config events e r.object
        (λ x i. kept-awaited config (place_of config (places config events) e ∷ places config events) x
        (ap (is_awaited config.ack_ms (now (place_of config (places config events) e ∷ places config events)) (place_of config (places config events) e ∷ places config events)) i
        ∙ awaited-by config.ack_ms (now (place_of config (places config events) e ∷ places config events)) (place_of config (places config events) e ∷ places config events) r waits))
        (before (returns r (place_of config (places config events) e)) (is_ack_of r.uid (place_of config (places config events) e).event.ask) refl refl)
      where
        waits : awaits config.ack_ms (now (place_of config (places config events) e ∷ places config events)) (place_of config (places config events) e ∷ places config events) r ≡ true
        waits = ap (λ h. awaits config.ack_ms (now h) h r) (sym (places-push config events e)) ∙ a

        before : (b c : Bool) → returns r (place_of config (places config events) e) ≡ b → is_ack_of r.uid (place_of config (places config events) e).event.ask ≡ c →
            has (table config (places config events) ++ (place_of config (places config events) e).exported_here) r.object ≡ true
        before true c s t = listed-there config events e r.object (returned-listed (place_of config (places config events) e) r s)
        before false true s t =
            absurd (let never = awaits-acknowledged config.ack_ms (now (place_of config (places config events) e ∷ places config events)) (place_of config (places config events) e) (places config events) r (numbered-place config events e) s t in let w = waits in cc)
        before false false s t =
            in-front (table config (places config events)) (place_of config (places config events) e).exported_here r.object
            (ih r (awaits-earlier config.ack_ms (now (places config events)) (now (place_of config (places config events) e ∷ places config events)) (places config events) r
            (let n = now-push config (places config events) e in omega arith)
            (sym (awaits-passed config.ack_ms (now (place_of config (places config events) e ∷ places config events)) (place_of config (places config events) e) (places config events) r s t) ∙ waits)))
