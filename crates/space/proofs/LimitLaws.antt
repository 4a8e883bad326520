-- The entries of a history's tables and their limits, generic in the ask: what an event that is not refused leaves, and what time leaves.
use Rattle.std.proofs.Common.{◌≡◌, ℕ, ◌+◌, ◌≤◌, ◌⊎◌, inl, inr, List, [], ◌∷◌, ◌++◌, length, refl, ap, sym, subst, ◌∙◌, map, max, arith, Option, Some, None, append-nil, length-append}
use Rattle.std.specs.Prelude.{Bool, true, false, ◌&&◌, ◌||◌, not, filter, flat_map, nat_lt, nat_le, if◌then◌else◌, option_to_list, is_none}
use Rattle.std.specs.List.{list_any}
use Rattle.std.proofs.lemmas.Bool.{ltb-false, leb-false, and_parts, and_from, or_left, or_right, or_cases}
use Rattle.std.proofs.lemmas.List.Folds.{list_any-append}
use Rattle.sequence.proofs.Lists.{filter-shorter}
use Rattle.object_ids.specs.declared.ids.ObjId.{ObjId}
use Rattle.object_ids.specs.declared.ids.FullKind.TheVariants.{Exports, Awaiting, Clients, Pairs, Names}
use Rattle.object_ids.specs.Same.{same_client, same_id, same_bytes}
use Rattle.history.specs.declared.asks.SpaceConfig.{SpaceConfig}
use Rattle.history.specs.declared.asks.Event.{Event}
use Rattle.history.specs.declared.asks.Ask.{Ask}
use Rattle.history.specs.declared.asks.Ask.TheVariants.{Dirty, Clean}
use Rattle.history.specs.declared.calls.Call.{Call}
use Rattle.history.specs.declared.calls.Pair.{Pair}
use Rattle.history.specs.declared.limits.TheConstants.{MAX_EXPORTS, MAX_AWAITING, MAX_CLIENTS, MAX_PAIRS, MAX_NAMES, MAX_ERASED_UNITS, MAX_RUNNING_CALLS}
use Rattle.history.specs.declared.places.Exported.{Exported}
use Rattle.history.specs.declared.places.Returned.{Returned}
use Rattle.history.specs.declared.replies.Refused.TheVariants.{HistoryFull, Full}
use Rattle.history.specs.Awaiting.{same_returned, returned_references, returns, is_ack_of, awaits, awaiting_references, until_of}
use Rattle.history.specs.LeaseCalls.{call_with, lease_calls}
use Rattle.history.specs.Leases.{is_dirty, calls_of, clients_with_time_left, is_remembered, same_pair, pairs_with, pairs, new_pairs}
use Rattle.history.specs.Limits.{units_of, units, starts, ends, reserved_units, limits, exports_with_event, awaiting_with_event, lease_call, clients_with_event, pairs_with_event, names_with_event, units_limit, is_full, starts_too_many, refusal}
use Rattle.history.specs.Lists.{distinct, AllOnce}
use Rattle.history.specs.Names.{name_bound, names}
use Rattle.history.specs.Places.{History, has, now, ever_exported}
use Rattle.history.specs.Replies.{ids}
use Rattle.history.specs.Table.{is_kept, table, place_of, places}
use Rattle.history.proofs.AlikeCalls.{AllAlike-append, AllAlike-self, is_remembered-alike, calls_of-alike}
use Rattle.history.proofs.AwaitingLaws.{returned-equality, awaits-acknowledged, awaits-passed, awaiting_references-member, awaiting_references-once}
use Rattle.history.proofs.ListLemmas.{every-append, IsEquality, length-fewer, list_any-filter, list_any-distinct}
use Rattle.history.proofs.NameLaws.{unbinds, name_begun, names-push, names-once, bytes-equality}
use Rattle.history.proofs.NamedCalls.{call_with-alike}
use Rattle.history.proofs.NumberLaws.{has-filter}
use Rattle.history.proofs.Partitions.{one_if}
use Rattle.history.proofs.RunningLaws.{reserved_units-push}
use Rattle.history.proofs.TableLaws.{places-push, table-place, now-push, moment-place_of, ask-place_of, units-push}
use Rattle.history.proofs.PairLaws.{pair-equality, any-pairs_with, remembered-named}
use Rattle.history.proofs.Equalities.{client-equality}
use Rattle.dgc_server.specs.Counts.{clients_with_call, pairs_with_call}
use Rattle.space.specs.Kept.{live_calls, IsWithin}
use Rattle.space.proofs.Clients.{distinct-fewer, left-more}
use Rattle.space.proofs.LiveLaws.{pairs-live, new_pairs-live, left-live}
use Rattle.space.proofs.Named.{NamesOnly, call-names, calls-names, naming-has, any-ids, lease_calls-push}
use Rattle.export_table.proofs.ThereLaws.{new-not-old}
use Rattle.space.proofs.Pairs.{remembered-earlier, pair-after}
use Rattle.export_table.proofs.WaitLaws.{awaits-until, numbered-place, distinct-same}
use Rattle.dgc_server.proofs.Steps.{earlier}

-- ---- an event that is not refused

pub record IsTaken (config : SpaceConfig) (h : History) (e : Event) : Type 0 where
  pub history : is_full (units_limit config.stored) config h e ≡ false
  pub calls : starts_too_many MAX_RUNNING_CALLS config h e ≡ false
  pub exports : nat_lt MAX_EXPORTS (exports_with_event config h e) ≡ false
  pub awaits : nat_lt MAX_AWAITING (awaiting_with_event config h e) ≡ false
  pub clients : nat_lt MAX_CLIENTS (clients_with_event config h e) ≡ false
  pub pairs : nat_lt MAX_PAIRS (pairs_with_event config h e) ≡ false
  pub names : nat_lt MAX_NAMES (names_with_event config h e) ≡ false

unchained : (a z b c d e f : Bool) →
    (if a then Some HistoryFull else if z then Some HistoryFull else if b then Some (Full Exports) else if c then Some (Full Awaiting) else if d then Some (Full Clients) else if e then Some (Full Pairs) else if f then Some (Full Names) else None) ≡ None →
    (a ≡ false) × (z ≡ false) × (b ≡ false) × (c ≡ false) × (d ≡ false) × (e ≡ false) × (f ≡ false)
unchained true z b c d e f h = absurd (cc)
unchained false true b c d e f h = absurd (cc)
unchained false false true c d e f h = absurd (cc)
unchained false false false true d e f h = absurd (cc)
unchained false false false false true e f h = absurd (cc)
unchained false false false false false true f h = absurd (cc)
unchained false false false false false false true h = absurd (cc)
unchained false false false false false false false h = (refl, refl, refl, refl, refl, refl, refl)

pub taken-all : (config : SpaceConfig) (h : History) (e : Event) → refusal (limits config) config h e ≡ None → IsTaken config h e
unfolding refusal
taken-all config h e r =
    let all = unchained (is_full (units_limit config.stored) config h e) (starts_too_many MAX_RUNNING_CALLS config h e) (nat_lt MAX_EXPORTS (exports_with_event config h e)) (nat_lt MAX_AWAITING (awaiting_with_event config h e)) (nat_lt MAX_CLIENTS (clients_with_event config h e)) (nat_lt MAX_PAIRS (pairs_with_event config h e)) (nat_lt MAX_NAMES (names_with_event config h e)) r in
    record { history = all.0; calls = all.1; exports = all.2; awaits = all.3; clients = all.4; pairs = all.5; names = all.6 }

-- ---- units

-- The history with the event has the units that were tested.
pub units-next : (limit : ℕ) (config : SpaceConfig) (events : List Event) (e : Event) → is_full limit config (places config events) e ≡ false →
    units (place_of config (places config events) e ∷ places config events) + reserved_units (place_of config (places config events) e ∷ places config events) ≤ limit
unfolding is_full one_if
units-next limit config events e f =
    let few = ltb-false (limit + (if ends (place_of config (places config events) e) then 1 else 0)) (units (places config events) + reserved_units (places config events) + units_of e.ask + (if starts (place_of config (places config events) e) then 1 else 0)) f in
    let more = units-push (place_of config (places config events) e) (places config events) in
    let same : units_of (place_of config (places config events) e).event.ask ≡ units_of e.ask = ap units_of (ask-place_of config (places config events) e) in
    let step = reserved_units-push config events e in
    go (ends (place_of config (places config events) e)) (starts (place_of config (places config events) e)) few more same step
  where
    go : (a b : Bool) → units (places config events) + reserved_units (places config events) + units_of e.ask + (if b then 1 else 0) ≤ limit + (if a then 1 else 0) →
        units (place_of config (places config events) e ∷ places config events) ≡ units_of (place_of config (places config events) e).event.ask + units (places config events) →
        units_of (place_of config (places config events) e).event.ask ≡ units_of e.ask →
        reserved_units (place_of config (places config events) e ∷ places config events) + one_if a ≡ reserved_units (places config events) + one_if b →
        units (place_of config (places config events) e ∷ places config events) + reserved_units (place_of config (places config events) e ∷ places config events) ≤ limit
    go true true f m s r = omega arith
    go true false f m s r = omega arith
    go false true f m s r = omega arith
    go false false f m s r = omega arith

-- The history with the event has no more running calls than were tested.
pub calls-next : (limit : ℕ) (config : SpaceConfig) (events : List Event) (e : Event) → reserved_units (places config events) ≤ limit → starts_too_many limit config (places config events) e ≡ false →
    reserved_units (place_of config (places config events) e ∷ places config events) ≤ limit
unfolding starts_too_many one_if
calls-next limit config events e w f =
    go (starts (place_of config (places config events) e)) (ends (place_of config (places config events) e)) (nat_le limit (reserved_units (places config events))) refl f (reserved_units-push config events e)
  where
    go : (b a c : Bool) → nat_le limit (reserved_units (places config events)) ≡ c → (b && c) ≡ false →
        reserved_units (place_of config (places config events) e ∷ places config events) + one_if a ≡ reserved_units (places config events) + one_if b →
        reserved_units (place_of config (places config events) e ∷ places config events) ≤ limit
    go true a true t f s = absurd (cc)
    go true true false t f s = let few = leb-false limit (reserved_units (places config events)) t in omega (arith, few, s)
    go true false false t f s = let few = leb-false limit (reserved_units (places config events)) t in omega (arith, few, s)
    go false true c t f s = omega (arith, w, s)
    go false false c t f s = omega (arith, w, s)

-- Each limit of units can be counted.
pub units-countable : (stored : Bool) → units_limit stored ≤ MAX_ERASED_UNITS
units-countable true = omega arith
units-countable false = omega arith

-- ---- exported objects

pub exports-next : (config : SpaceConfig) (events : List Event) (e : Event) → length (table config (place_of config (places config events) e ∷ places config events)) ≤ exports_with_event config (places config events) e
unfolding exports_with_event
exports-next config events e =
    let next = ap length (table-place config (places config events) e) in
    let fewer = filter-shorter (is_kept config (place_of config (places config events) e ∷ places config events)) (table config (places config events) ++ (place_of config (places config events) e).exported_here) in
    let both = length-append (table config (places config events)) (place_of config (places config events) e).exported_here in
    omega (arith, next, fewer, both)

-- ---- references that await

pub distinct-longer : {X : Type 0} (same : X → X → Bool) → IsEquality same → (xs ys : List X) → AllOnce same xs → ((k : X) → list_any (same k) xs ≡ true → list_any (same k) ys ≡ true) → length xs ≤ length (distinct same ys)
distinct-longer same e xs ys once f =
    length-fewer same e xs (distinct same ys) once (λ k h. list_any-distinct same (same k) (λ a b s. ap (same k) (e.equal a b s)) ys ∙ f k h)

pub awaiting-next : (config : SpaceConfig) (events : List Event) (e : Event) →
    length (awaiting_references config.ack_ms (now (place_of config (places config events) e ∷ places config events)) (place_of config (places config events) e ∷ places config events)) ≤ awaiting_with_event config (places config events) e
unfolding awaiting_with_event
awaiting-next config events e =
    distinct-longer same_returned returned-equality
    (awaiting_references config.ack_ms (now (place_of config (places config events) e ∷ places config events)) (place_of config (places config events) e ∷ places config events))
    (awaiting_references config.ack_ms (place_of config (places config events) e).moment (places config events) ++ returned_references (place_of config (places config events) e))
    (awaiting_references-once config.ack_ms (now (place_of config (places config events) e ∷ places config events)) (place_of config (places config events) e ∷ places config events))
    (λ r h. list_any-append (same_returned r) (awaiting_references config.ack_ms (place_of config (places config events) e).moment (places config events)) (returned_references (place_of config (places config events) e))
    ∙ go r (returns r (place_of config (places config events) e)) (is_ack_of r.uid (place_of config (places config events) e).event.ask) refl refl
    (sym (awaiting_references-member config.ack_ms (now (place_of config (places config events) e ∷ places config events)) (place_of config (places config events) e ∷ places config events) r) ∙ h))
  where
    time : now (place_of config (places config events) e ∷ places config events) ≡ (place_of config (places config events) e).moment
    time = now-push config (places config events) e ∙ sym (moment-place_of config (places config events) e)

    go : (r : Returned) (b c : Bool) → returns r (place_of config (places config events) e) ≡ b → is_ack_of r.uid (place_of config (places config events) e).event.ask ≡ c →
        awaits config.ack_ms (now (place_of config (places config events) e ∷ places config events)) (place_of config (places config events) e ∷ places config events) r ≡ true →
        (list_any (same_returned r) (awaiting_references config.ack_ms (place_of config (places config events) e).moment (places config events)) || list_any (same_returned r) (returned_references (place_of config (places config events) e))) ≡ true
    go r true c s t a = or_right (list_any (same_returned r) (awaiting_references config.ack_ms (place_of config (places config events) e).moment (places config events))) (list_any (same_returned r) (returned_references (place_of config (places config events) e))) s
    go r false true s t a =
        absurd (let never = awaits-acknowledged config.ack_ms (now (place_of config (places config events) e ∷ places config events)) (place_of config (places config events) e) (places config events) r (numbered-place config events e) s t in cc)
    go r false false s t a =
        or_left (list_any (same_returned r) (awaiting_references config.ack_ms (place_of config (places config events) e).moment (places config events))) (list_any (same_returned r) (returned_references (place_of config (places config events) e)))
        (awaiting_references-member config.ack_ms (place_of config (places config events) e).moment (places config events) r
        ∙ ap (λ n. awaits config.ack_ms n (places config events) r) (sym time)
        ∙ sym (awaits-passed config.ack_ms (now (place_of config (places config events) e ∷ places config events)) (place_of config (places config events) e) (places config events) r s t) ∙ a)

-- As time passes no more of them await.
pub awaiting-later : (ack t u : ℕ) (h : History) → t ≤ u → length (awaiting_references ack u h) ≤ length (awaiting_references ack t h)
awaiting-later ack t u h le =
    length-fewer same_returned returned-equality (awaiting_references ack u h) (awaiting_references ack t h) (awaiting_references-once ack u h)
    (λ r a. awaiting_references-member ack t h r ∙ awaits-until ack t h r ∙ earlier t u (until_of ack h r) le (sym (awaits-until ack u h r) ∙ sym (awaiting_references-member ack u h r) ∙ a))

-- ---- clients

pub clients-next : (config : SpaceConfig) (h : History) (e : Event) →
    length (distinct same_client (clients_with_time_left config.lease_ms (now (place_of config h e ∷ h)) (lease_calls (place_of config h e ∷ h)))) ≤ clients_with_event config h e
unfolding clients_with_event
clients-next config h e =
    let fewer = distinct-fewer same_client client-equality
    (clients_with_time_left config.lease_ms (max e.moment (now h)) (call_with (has (ever_exported h)) (max e.moment (now h)) e.ask ++ lease_calls h))
    (clients_with_time_left config.lease_ms (max e.moment (now h)) (lease_calls h) ++ map (λ x. x.client) (filter is_dirty (lease_call config h e)))
    (left-more config.lease_ms (max e.moment (now h)) (has (ever_exported h)) (has (table config h)) e.ask (lease_calls h)) in
    let time = ap (λ n. length (distinct same_client (clients_with_time_left config.lease_ms n (lease_calls (place_of config h e ∷ h))))) (now-push config h e) in
    let calls = ap (λ l. length (distinct same_client (clients_with_time_left config.lease_ms (max e.moment (now h)) l))) (lease_calls-push config h e) in
    omega (arith, fewer, time, calls)

-- ---- pairs

-- For an object that was exported, what was in the table before an event and is there after it.
was-there : (config : SpaceConfig) (events : List Event) (e : Event) (o : ObjId) → has (ever_exported (places config events)) o ≡ true → has (table config (place_of config (places config events) e ∷ places config events)) o ≡ true → has (table config (places config events)) o ≡ true
was-there config events e o old new =
    go (or_cases (has (table config (places config events)) o) (has (place_of config (places config events) e).exported_here o)
    (sym (list_any-append (λ (x : Exported). same_id x.id o) (table config (places config events)) (place_of config (places config events) e).exported_here) ∙ within (has (table config (places config events) ++ (place_of config (places config events) e).exported_here) o) refl))
  where
    is_next : has (filter (is_kept config (place_of config (places config events) e ∷ places config events)) (table config (places config events) ++ (place_of config (places config events) e).exported_here)) o ≡ true
    is_next = ap (λ l. has l o) (sym (table-place config (places config events) e)) ∙ new

    none : (test : Exported → Bool) (xs : List Exported) → has xs o ≡ false → has (filter test xs) o ≡ false
    none test xs h = has-filter test xs o h

    within : (b : Bool) → has (table config (places config events) ++ (place_of config (places config events) e).exported_here) o ≡ b → b ≡ true
    within true h = refl
    within false h = absurd (let never = none (is_kept config (place_of config (places config events) e ∷ places config events)) (table config (places config events) ++ (place_of config (places config events) e).exported_here) h in let n = is_next in cc)

    go : (has (table config (places config events)) o ≡ true) ⊎ (has (place_of config (places config events) e).exported_here o ≡ true) → has (table config (places config events)) o ≡ true
    go (inl h) = h
    go (inr h) = absurd (let never = new-not-old config events e o h in cc)

pairs-more : (config : SpaceConfig) (events : List Event) (e : Event) (p : Pair) →
    list_any (same_pair p) (pairs_with config.lease_ms (max e.moment (now (places config events))) (call_with (has (ever_exported (places config events))) (max e.moment (now (places config events))) e.ask ++ lease_calls (places config events)) (ids (table config (place_of config (places config events) e ∷ places config events)))) ≡ true →
    list_any (same_pair p) (pairs_with config.lease_ms (max e.moment (now (places config events))) (lease_calls (places config events)) (ids (table config (places config events))) ++ flat_map (new_pairs config.lease_ms (lease_calls (places config events))) (lease_call config (places config events) e)) ≡ true
pairs-more config events e p r =
    list_any-append (same_pair p) (pairs_with config.lease_ms m (lease_calls (places config events)) (ids (table config (places config events)))) (flat_map (new_pairs config.lease_ms (lease_calls (places config events))) (lease_call config (places config events) e))
    ∙ go e.ask reported
  where
    m : ℕ
    m = max e.moment (now (places config events))

    parts : (has (table config (place_of config (places config events) e ∷ places config events)) p.object ≡ true) × (is_remembered config.lease_ms (max e.moment (now (places config events))) (calls_of p.client (call_with (has (ever_exported (places config events))) (max e.moment (now (places config events))) e.ask ++ lease_calls (places config events))) p.object ≡ true)
    parts =
        let two = and_parts (list_any (same_id p.object) (ids (table config (place_of config (places config events) e ∷ places config events)))) (is_remembered config.lease_ms (max e.moment (now (places config events))) (calls_of p.client (call_with (has (ever_exported (places config events))) (max e.moment (now (places config events))) e.ask ++ lease_calls (places config events))) p.object)
        (sym (any-pairs_with config.lease_ms (max e.moment (now (places config events))) (call_with (has (ever_exported (places config events))) (max e.moment (now (places config events))) e.ask ++ lease_calls (places config events)) (ids (table config (place_of config (places config events) e ∷ places config events))) p) ∙ r) in
        (sym (any-ids (table config (place_of config (places config events) e ∷ places config events)) p.object) ∙ two.0, two.1)

    exported : has (ever_exported (places config events)) p.object ≡ true
    exported =
        naming-has (ever_exported (places config events)) p.object (call_with (has (ever_exported (places config events))) (max e.moment (now (places config events))) e.ask ++ lease_calls (places config events))
        (every-append (NamesOnly (ever_exported (places config events))) (call_with (has (ever_exported (places config events))) (max e.moment (now (places config events))) e.ask) (lease_calls (places config events)) (call-names (ever_exported (places config events)) (max e.moment (now (places config events))) e.ask) (calls-names (places config events)))
        (remembered-named config.lease_ms (max e.moment (now (places config events))) p.client (call_with (has (ever_exported (places config events))) (max e.moment (now (places config events))) e.ask ++ lease_calls (places config events)) p.object parts.1)

    there : has (table config (places config events)) p.object ≡ true
    there = was-there config events e p.object exported parts.0

    reported : is_remembered config.lease_ms (max e.moment (now (places config events))) (calls_of p.client (call_with (has (table config (places config events))) (max e.moment (now (places config events))) e.ask ++ lease_calls (places config events))) p.object ≡ true
    reported =
        sym (is_remembered-alike p.object config.lease_ms (max e.moment (now (places config events)))
        (calls_of p.client (call_with (has (ever_exported (places config events))) (max e.moment (now (places config events))) e.ask ++ lease_calls (places config events)))
        (calls_of p.client (call_with (has (table config (places config events))) (max e.moment (now (places config events))) e.ask ++ lease_calls (places config events)))
        (calls_of-alike p.object p.client
        (call_with (has (ever_exported (places config events))) (max e.moment (now (places config events))) e.ask ++ lease_calls (places config events))
        (call_with (has (table config (places config events))) (max e.moment (now (places config events))) e.ask ++ lease_calls (places config events))
        (AllAlike-append p.object (call_with (has (ever_exported (places config events))) (max e.moment (now (places config events))) e.ask) (call_with (has (table config (places config events))) (max e.moment (now (places config events))) e.ask) (lease_calls (places config events)) (lease_calls (places config events))
        (call_with-alike (has (ever_exported (places config events))) (has (table config (places config events))) p.object (exported ∙ sym there) (max e.moment (now (places config events))) e.ask) (AllAlike-self p.object (lease_calls (places config events))))))
        ∙ parts.1

    old : (v : Bool) → is_remembered config.lease_ms (max e.moment (now (places config events))) (calls_of p.client (lease_calls (places config events))) p.object ≡ true →
        (list_any (same_pair p) (pairs_with config.lease_ms (max e.moment (now (places config events))) (lease_calls (places config events)) (ids (table config (places config events)))) || v) ≡ true
    old v x =
        or_left _ v (any-pairs_with config.lease_ms (max e.moment (now (places config events))) (lease_calls (places config events)) (ids (table config (places config events))) p
        ∙ and_from (list_any (same_id p.object) (ids (table config (places config events)))) (is_remembered config.lease_ms (max e.moment (now (places config events))) (calls_of p.client (lease_calls (places config events))) p.object)
        (any-ids (table config (places config events)) p.object ∙ there) x)

    join : (x : Call) → (is_remembered config.lease_ms (max e.moment (now (places config events))) (calls_of p.client (lease_calls (places config events))) p.object ≡ true) ⊎ (list_any (same_pair p) (new_pairs config.lease_ms (lease_calls (places config events)) x) ≡ true) →
        (list_any (same_pair p) (pairs_with config.lease_ms (max e.moment (now (places config events))) (lease_calls (places config events)) (ids (table config (places config events)))) || list_any (same_pair p) (new_pairs config.lease_ms (lease_calls (places config events)) x ++ [])) ≡ true
    join x (inl y) = old _ y
    join x (inr y) = or_right _ _ (list_any-append (same_pair p) (new_pairs config.lease_ms (lease_calls (places config events)) x) [] ∙ or_left _ false y)

    go : (a : Ask) → is_remembered config.lease_ms (max e.moment (now (places config events))) (calls_of p.client (call_with (has (table config (places config events))) (max e.moment (now (places config events))) a ++ lease_calls (places config events))) p.object ≡ true →
        (list_any (same_pair p) (pairs_with config.lease_ms (max e.moment (now (places config events))) (lease_calls (places config events)) (ids (table config (places config events))))
        || list_any (same_pair p) (flat_map (new_pairs config.lease_ms (lease_calls (places config events))) (call_with (has (table config (places config events))) (max e.moment (now (places config events))) a))) ≡ true
    go (Dirty client number asked named) x = join _ (pair-after config.lease_ms _ (lease_calls (places config events)) p x)
    go (Clean client number named strong) x = join _ (pair-after config.lease_ms _ (lease_calls (places config events)) p x)
    go _ x = old _ x

pub pairs-next : (config : SpaceConfig) (events : List Event) (e : Event) →
    length (distinct same_pair (pairs_with config.lease_ms (now (place_of config (places config events) e ∷ places config events)) (lease_calls (place_of config (places config events) e ∷ places config events)) (ids (table config (place_of config (places config events) e ∷ places config events)))))
    ≤ pairs_with_event config (places config events) e
unfolding pairs_with_event
pairs-next config events e =
    let h' : History = place_of config (places config events) e ∷ places config events in
    let fewer = distinct-fewer same_pair pair-equality
    (pairs_with config.lease_ms (max e.moment (now (places config events))) (call_with (has (ever_exported (places config events))) (max e.moment (now (places config events))) e.ask ++ lease_calls (places config events)) (ids (table config (place_of config (places config events) e ∷ places config events))))
    (pairs_with config.lease_ms (max e.moment (now (places config events))) (lease_calls (places config events)) (ids (table config (places config events))) ++ flat_map (new_pairs config.lease_ms (lease_calls (places config events))) (lease_call config (places config events) e))
    (pairs-more config events e) in
    let time = ap (λ n. length (distinct same_pair (pairs_with config.lease_ms n (lease_calls (place_of config (places config events) e ∷ places config events)) (ids (table config (place_of config (places config events) e ∷ places config events)))))) (now-push config (places config events) e) in
    let calls = ap (λ l. length (distinct same_pair (pairs_with config.lease_ms (max e.moment (now (places config events))) l (ids (table config (place_of config (places config events) e ∷ places config events)))))) (lease_calls-push config (places config events) e) in
    omega (arith, fewer, time, calls)

-- As time passes no more of them are remembered.
pub pairs-later : (lease t u : ℕ) (calls : List Call) (objects : List ObjId) → t ≤ u → length (distinct same_pair (pairs_with lease u calls objects)) ≤ length (distinct same_pair (pairs_with lease t calls objects))
pairs-later lease t u calls objects le =
    distinct-fewer same_pair pair-equality (pairs_with lease u calls objects) (pairs_with lease t calls objects)
    (λ p h. (let two = and_parts (list_any (same_id p.object) objects) (is_remembered lease u (calls_of p.client calls) p.object) (sym (any-pairs_with lease u calls objects p) ∙ h) in
    any-pairs_with lease t calls objects p ∙ and_from (list_any (same_id p.object) objects) (is_remembered lease t (calls_of p.client calls) p.object) two.0 (remembered-earlier lease t u (calls_of p.client calls) p.object le two.1)))

-- The pairs after one call are those that a table of live calls counts, and so are the clients after a dirty.
pub pairs-reported : (objects : List Exported) (lease : ℕ) (calls : List Call) (x : Call) →
    length (distinct same_pair (pairs_with lease x.moment calls (ids objects) ++ (new_pairs lease calls x ++ []))) ≡ pairs_with_call lease (live_calls objects calls) x
pairs-reported objects lease calls x =
    distinct-same same_pair pair-equality (pairs_with lease x.moment calls (ids objects) ++ (new_pairs lease calls x ++ [])) (pairs lease x.moment (live_calls objects calls) ++ new_pairs lease (live_calls objects calls) x)
    (λ p. list_any-append (same_pair p) (pairs_with lease x.moment calls (ids objects)) (new_pairs lease calls x ++ [])
    ∙ ap (λ v. v || list_any (same_pair p) (new_pairs lease calls x ++ [])) (pairs-live objects lease x.moment calls p)
    ∙ ap (λ l. list_any (same_pair p) (pairs lease x.moment (live_calls objects calls)) || list_any (same_pair p) l) (whole (new_pairs lease calls x) ∙ new_pairs-live objects lease calls x)
    ∙ sym (list_any-append (same_pair p) (pairs lease x.moment (live_calls objects calls)) (new_pairs lease (live_calls objects calls) x)))
  where
    whole : (ps : List Pair) → ps ++ [] ≡ ps
    whole ps = rw append-nil refl

pub clients-reported : (objects : List Exported) (lease t : ℕ) (calls : List Call) (x : Call) →
    length (distinct same_client (clients_with_time_left lease t calls ++ x.client ∷ [])) ≡ clients_with_call lease t (live_calls objects calls) x.client
clients-reported objects lease t calls x = ap (λ cs. length (distinct same_client (cs ++ x.client ∷ []))) (sym (left-live objects lease t calls))

-- ---- names

pub names-next : (config : SpaceConfig) (events : List Event) (e : Event) → length (names (place_of config (places config events) e ∷ places config events)) ≤ names_with_event config (places config events) e
unfolding names_with_event
names-next config events e =
    distinct-longer same_bytes bytes-equality (names (place_of config (places config events) e ∷ places config events))
    (names (places config events) ++ (if (place_of config (places config events) e).effective then option_to_list (name_bound e.ask) else []))
    (subst Once (places-push config events e) (names-once config (events ++ e ∷ [])))
    (λ n h. list_any-append (same_bytes n) (names (places config events)) (if (place_of config (places config events) e).effective then option_to_list (name_bound e.ask) else [])
    ∙ go n (or_cases (list_any (same_bytes n) (filter (λ k. not (unbinds (place_of config (places config events) e) k)) (names (places config events)))) (list_any (same_bytes n) (name_begun (place_of config (places config events) e)))
    (sym (list_any-append (same_bytes n) (filter (λ k. not (unbinds (place_of config (places config events) e) k)) (names (places config events))) (name_begun (place_of config (places config events) e)))
    ∙ ap (list_any (same_bytes n)) (sym (names-push (place_of config (places config events) e) (places config events) (numbered-place config events e))) ∙ h)))
  where
    Once : History → Type 0
    Once h = AllOnce same_bytes (names h)

    filtered : (test : List ℕ → Bool) (n : List ℕ) (ns : List (List ℕ)) → list_any (same_bytes n) (filter test ns) ≡ true → list_any (same_bytes n) ns ≡ true
    filtered test n ns h = second test n ns (sym (list_any-filter (same_bytes n) test ns) ∙ h)
      where
        second : (test : List ℕ → Bool) (n : List ℕ) (ns : List (List ℕ)) → list_any (λ k. test k && same_bytes n k) ns ≡ true → list_any (same_bytes n) ns ≡ true
        second test n [] h = absurd (cc)
        second test n (k ∷ ns) h = elim (or_cases (test k && same_bytes n k) (list_any (λ j. test j && same_bytes n j) ns) h) [
          | inl here ↦ or_left (same_bytes n k) (list_any (same_bytes n) ns) (and_parts (test k) (same_bytes n k) here).1
          | inr there ↦ or_right (same_bytes n k) (list_any (same_bytes n) ns) (second test n ns there)
        ]

    begun : (n : List ℕ) (f b : Bool) (o : Option (List ℕ)) → list_any (same_bytes n) (if f && b then option_to_list o else []) ≡ true → list_any (same_bytes n) (if f then option_to_list o else []) ≡ true
    begun n true true o h = h
    begun n true false o h = absurd (cc)
    begun n false b o h = absurd (cc)

    go : (n : List ℕ) → (list_any (same_bytes n) (filter (λ k. not (unbinds (place_of config (places config events) e) k)) (names (places config events))) ≡ true) ⊎ (list_any (same_bytes n) (name_begun (place_of config (places config events) e)) ≡ true) →
        (list_any (same_bytes n) (names (places config events)) || list_any (same_bytes n) (if (place_of config (places config events) e).effective then option_to_list (name_bound e.ask) else [])) ≡ true
    go n (inl h) = or_left _ _ (filtered (λ k. not (unbinds (place_of config (places config events) e) k)) n (names (places config events)) h)
    go n (inr h) =
        or_right _ _ (ap (λ a. list_any (same_bytes n) (if (place_of config (places config events) e).effective then option_to_list (name_bound a) else [])) (sym (ask-place_of config (places config events) e))
        ∙ begun n (place_of config (places config events) e).effective (is_none (place_of config (places config events) e).name_stood_for) (name_bound (place_of config (places config events) e).event.ask) h)

-- ---- ALL TABLES after an event that is not refused.
pub within-next : (config : SpaceConfig) (events : List Event) (e : Event) → reserved_units (places config events) ≤ MAX_RUNNING_CALLS → refusal (limits config) config (places config events) e ≡ None → IsWithin config (place_of config (places config events) e ∷ places config events)
within-next config events e before r =
    let t = taken-all config (places config events) e r in
    record {
      history = units-next (units_limit config.stored) config events e t.history;
      countable = (let some = units-next (units_limit config.stored) config events e t.history in let most = units-countable config.stored in omega (arith, some, most));
      calls = calls-next MAX_RUNNING_CALLS config events e before t.calls;
      exports = (let few = ltb-false MAX_EXPORTS (exports_with_event config (places config events) e) t.exports in omega (arith, few, exports-next config events e));
      awaits = (let few = ltb-false MAX_AWAITING (awaiting_with_event config (places config events) e) t.awaits in omega (arith, few, awaiting-next config events e));
      clients = (let few = ltb-false MAX_CLIENTS (clients_with_event config (places config events) e) t.clients in omega (arith, few, clients-next config (places config events) e));
      pairs = (let few = ltb-false MAX_PAIRS (pairs_with_event config (places config events) e) t.pairs in omega (arith, few, pairs-next config events e));
      names = (let few = ltb-false MAX_NAMES (names_with_event config (places config events) e) t.names in omega (arith, few, names-next config events e));
    }
