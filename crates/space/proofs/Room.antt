-- When an event is refused, by what is kept.
use Rattle.std.proofs.Common.{◌≡◌, ℕ, ◌+◌, ◌≤◌, inl, inr, List, [], ◌∷◌, ◌++◌, length, refl, ap, sym, subst, ◌∙◌, arith, max, Option, Some, None, append-nil, length-append}
use Rattle.std.specs.Prelude.{filter, Bool, true, false, ◌&&◌, ◌||◌, nat_lt, nat_le, is_none, is_some, option_to_list, if◌then◌else◌}
use Rattle.std.specs.List.{list_any}
use Rattle.std.proofs.str.Laws.{order}
use Rattle.std.proofs.lemmas.Bool.{le-ltb, lt-ltb, le-leb, lt-leb}
use Rattle.std.proofs.lemmas.List.Folds.{list_any-append}
use Rattle.object_ids.specs.declared.ids.FullKind.TheVariants.{Exports, Awaiting, Clients, Pairs, Names}
use Rattle.object_ids.specs.declared.ids.ObjId.{ObjId}
use Rattle.object_ids.specs.Same.{same_client, same_bytes}
use Rattle.history.specs.declared.asks.SpaceConfig.{SpaceConfig}
use Rattle.history.specs.declared.asks.Event.{Event}
use Rattle.history.specs.declared.asks.Ask.{Ask}
use Rattle.history.specs.declared.asks.Ask.TheVariants.{Dirty, Clean, Bind, Rebind}
use Rattle.history.specs.declared.limits.TheConstants.{MAX_EXPORTS, MAX_AWAITING, MAX_CLIENTS, MAX_PAIRS, MAX_NAMES, MAX_RUNNING_CALLS}
use Rattle.history.specs.declared.replies.Refused.{Refused}
use Rattle.history.specs.declared.replies.Refused.TheVariants.{HistoryFull, Full}
use Rattle.history.specs.Awaiting.{same_returned, returned_references, awaiting_references}
use Rattle.history.specs.LeaseCalls.{lease_calls}
use Rattle.history.specs.Leases.{clients_with_time_left, same_pair, pairs_with}
use Rattle.history.specs.Limits.{units_of, units, reserved_units, is_begin, is_end, limits, exports_with_event, awaiting_with_event, lease_call, clients_with_event, pairs_with_event, names_with_event, units_limit, is_full, starts_too_many, refusal}
use Rattle.history.specs.Lists.{distinct, AllOnce}
use Rattle.history.specs.Names.{name_bound, names, stands_for}
use Rattle.history.specs.Places.{History, has, now}
use Rattle.history.specs.Replies.{ids}
use Rattle.history.specs.Table.{is_effective, table, place_of, places}
use Rattle.history.proofs.AwaitingLaws.{returned-equality, awaiting_references-member}
use Rattle.history.proofs.ListLemmas.{AllOnce-distinct, AllOnce-push, length-members, list_any-distinct, or_false}
use Rattle.history.proofs.NameLaws.{bytes-equality, names-member, names-once}
use Rattle.history.proofs.TableLaws.{moment-place_of}
use Rattle.dgc_server.specs.Counts.{dirty_call, clean_call}
use Rattle.space.specs.Acts.{opens, room_refusal, lease_refusal, name_refusal, first_of_two}
use Rattle.space.specs.Kept.{live_calls, IsWithin}
use Rattle.space.proofs.Clients.{fewer-left}
use Rattle.space.proofs.LimitLaws.{awaiting-later, pairs-later, pairs-reported, clients-reported}
use Rattle.space.proofs.Acting.{stood_for}
use Rattle.space.proofs.Quiet.{adds-length}
use Rattle.export_table.proofs.WaitLaws.{count-awaiting}

-- ---- the history, and the exported objects

pub full-is : (limit : ℕ) (config : SpaceConfig) (h : History) (e : Event) →
    is_full limit config h e
    ≡ nat_lt (limit + (if is_effective config h e.by e.ask && is_end e.ask then 1 else 0)) (units h + reserved_units h + units_of e.ask + (if is_effective config h e.by e.ask && is_begin e.ask then 1 else 0))
unfolding is_full place_of
full-is limit config h e = refl

pub calls-are : (limit : ℕ) (config : SpaceConfig) (h : History) (e : Event) →
    starts_too_many limit config h e ≡ ((is_effective config h e.by e.ask && is_begin e.ask) && nat_le limit (reserved_units h))
unfolding starts_too_many place_of
calls-are limit config h e = refl

pub exports-is : (config : SpaceConfig) (h : History) (e : Event) → exports_with_event config h e ≡ length (table config h) + opens (is_effective config h e.by e.ask) e.ask
unfolding exports_with_event
exports-is config h e = ap (λ n. length (table config h) + n) (adds-length config h e)

-- ---- what stays empty

none-more : {X : Type 0} (xs : List X) → xs ++ [] ≡ xs
none-more xs = rw append-nil refl

pub awaiting-few : (config : SpaceConfig) (h : History) (e : Event) → returned_references (place_of config h e) ≡ [] → IsWithin config h → awaiting_with_event config h e ≤ MAX_AWAITING
unfolding awaiting_with_event
awaiting-few config h e b w =
    let moment = moment-place_of config h e in
    let none = ap (λ rs. length (distinct same_returned (awaiting_references config.ack_ms (place_of config h e).moment h ++ rs))) b in
    let whole = ap (λ rs. length (distinct same_returned rs)) (none-more (awaiting_references config.ack_ms (place_of config h e).moment h)) in
    let once = count-awaiting config.ack_ms (place_of config h e).moment h (distinct same_returned (awaiting_references config.ack_ms (place_of config h e).moment h))
    (AllOnce-distinct same_returned returned-equality (awaiting_references config.ack_ms (place_of config h e).moment h))
    (λ r. list_any-distinct same_returned (same_returned r) (λ x y s. ap (same_returned r) (returned-equality.equal x y s)) (awaiting_references config.ack_ms (place_of config h e).moment h) ∙ awaiting_references-member config.ack_ms (place_of config h e).moment h r) in
    let later = awaiting-later config.ack_ms (now h) (place_of config h e).moment h (omega arith) in
    let few = w.awaits in
    omega (arith, none, whole, once, later, few)

-- ---- names

-- How many names one more name adds, which is there or is new.
abbrev added_by : Bool → ℕ
added_by b = if b then 0 else 1

-- One more name in a list where none stands twice.
one-more : (ns : List (List ℕ)) (n : List ℕ) → AllOnce same_bytes ns → length (distinct same_bytes (ns ++ n ∷ [])) ≡ length ns + added_by (list_any (same_bytes n) ns)
one-more ns n once = go (list_any (same_bytes n) ns) refl
  where
    respects : (k : List ℕ) (x y : List ℕ) → same_bytes x y ≡ true → same_bytes k x ≡ same_bytes k y
    respects k x y s = ap (same_bytes k) (bytes-equality.equal x y s)

    members : (k : List ℕ) → list_any (same_bytes k) (distinct same_bytes (ns ++ n ∷ [])) ≡ (list_any (same_bytes k) ns || (same_bytes k n || false))
    members k = list_any-distinct same_bytes (same_bytes k) (respects k) (ns ++ n ∷ []) ∙ list_any-append (same_bytes k) ns (n ∷ [])

    go : (b : Bool) → list_any (same_bytes n) ns ≡ b → length (distinct same_bytes (ns ++ n ∷ [])) ≡ length ns + added_by b
    go true t = let same = length-members same_bytes bytes-equality (distinct same_bytes (ns ++ n ∷ [])) ns (AllOnce-distinct same_bytes bytes-equality (ns ++ n ∷ [])) once (λ k. members k ∙ there k (same_bytes k n) refl) in omega (arith, same)
      where
        there : (k : List ℕ) (c : Bool) → same_bytes k n ≡ c → (list_any (same_bytes k) ns || (c || false)) ≡ list_any (same_bytes k) ns
        there k true s = let P : List ℕ → Type 0 = λ z. list_any (same_bytes z) ns ≡ true in let in_it : list_any (same_bytes k) ns ≡ true = subst P (sym (bytes-equality.equal k n s)) t in rw in_it refl
        there k false s = or_false (list_any (same_bytes k) ns)
    go false t =
        let same = length-members same_bytes bytes-equality (distinct same_bytes (ns ++ n ∷ [])) (ns ++ n ∷ []) (AllOnce-distinct same_bytes bytes-equality (ns ++ n ∷ [])) (AllOnce-push same_bytes bytes-equality ns n once t)
        (λ k. list_any-distinct same_bytes (same_bytes k) (respects k) (ns ++ n ∷ [])) in
        let long = length-append ns (n ∷ []) in omega (arith, same, long)

pub names-refused : (config : SpaceConfig) (events : List Event) (e : Event) → length (names (places config events)) ≤ MAX_NAMES →
    (if nat_lt MAX_NAMES (names_with_event config (places config events) e) then Some (Full Names) else None)
    ≡ name_refusal (length (names (places config events))) (stood_for (places config events) e.ask) (is_effective config (places config events) e.by e.ask) e.ask
unfolding names_with_event place_of
names-refused config events e few = go (is_effective config (places config events) e.by e.ask) e.ask
  where
    ns : List (List ℕ)
    ns = names (places config events)

    full : Bool → Option Refused
    full b = if b then Some (Full Names) else None

    unchanged : (b : Bool) (rest : List (List ℕ)) → rest ≡ [] → b ≡ false → full (nat_lt MAX_NAMES (length (distinct same_bytes (ns ++ rest)))) ≡ full b
    unchanged b rest e f =
        let whole = ap (λ l. length (distinct same_bytes (ns ++ l))) e ∙ ap (λ l. length (distinct same_bytes l)) (none-more ns) in
        let same = length-members same_bytes bytes-equality (distinct same_bytes ns) ns (AllOnce-distinct same_bytes bytes-equality ns) (names-once config events)
        (λ k. list_any-distinct same_bytes (same_bytes k) (λ x y s. ap (same_bytes k) (bytes-equality.equal x y s)) ns) in
        ap full (le-ltb MAX_NAMES (length (distinct same_bytes (ns ++ rest))) (omega (arith, few, whole, same)) ∙ sym f)

    bound : (n : List ℕ) (s : Option ObjId) → stands_for (places config events) n ≡ s → full (nat_lt MAX_NAMES (length (distinct same_bytes (ns ++ n ∷ [])))) ≡ full (is_none s && nat_le MAX_NAMES (length ns))
    bound n (Some o) s =
        let more = one-more ns n (names-once config events) in
        let there : added_by (list_any (same_bytes n) ns) ≡ 0 = ap added_by (names-member config events n ∙ ap is_some s) in
        ap full (le-ltb MAX_NAMES (length (distinct same_bytes (ns ++ n ∷ []))) (omega (arith, few, more, there)))
    bound n None s =
        let more = one-more ns n (names-once config events) in
        let there : added_by (list_any (same_bytes n) ns) ≡ 1 = ap added_by (names-member config events n ∙ ap is_some s) in
        ap full (ap (nat_lt MAX_NAMES) (more ∙ ap (λ k. length ns + k) there) ∙ passes MAX_NAMES (length ns))
      where
        passes : (m k : ℕ) → nat_lt m (k + 1) ≡ nat_le m k
        passes m k = elim (order k m) [
          | inl less ↦ le-ltb m (k + 1) (omega (arith, less)) ∙ sym (lt-leb m k less)
          | inr more ↦ lt-ltb m (k + 1) (omega (arith, more)) ∙ sym (le-leb m k (omega (arith, more)))
        ]

    go : (v : Bool) (a : Ask) → full (nat_lt MAX_NAMES (length (distinct same_bytes (ns ++ (if v then option_to_list (name_bound a) else [])))))
        ≡ name_refusal (length ns) (stood_for (places config events) a) v a
    go true (Bind n o) = bound n (stands_for (places config events) n) refl
    go true (Rebind n o) = bound n (stands_for (places config events) n) refl
    go true _ = unchanged false [] refl refl
    go false (Bind n o) = unchanged false [] refl refl
    go false (Rebind n o) = unchanged false [] refl refl
    go false _ = unchanged false [] refl refl

-- ---- the lease call, whatever is asked

-- Where no call comes, the clients with time left and the pairs are few enough.
clients-few : (config : SpaceConfig) (h : History) (e : Event) → IsWithin config h →
    length (distinct same_client (clients_with_time_left config.lease_ms (max e.moment (now h)) (lease_calls h) ++ [])) ≤ MAX_CLIENTS
clients-few config h e w =
    let fewer = fewer-left config.lease_ms (now h) (max e.moment (now h)) (lease_calls h) (omega arith) in
    let same = ap (λ l. length (distinct same_client l)) (none-more (clients_with_time_left config.lease_ms (max e.moment (now h)) (lease_calls h))) in
    let few = w.clients in omega (arith, fewer, same, few)

pairs-few : (config : SpaceConfig) (h : History) (e : Event) → IsWithin config h →
    length (distinct same_pair (pairs_with config.lease_ms (max e.moment (now h)) (lease_calls h) (ids (table config h)) ++ [])) ≤ MAX_PAIRS
pairs-few config h e w =
    let fewer = pairs-later config.lease_ms (now h) (max e.moment (now h)) (lease_calls h) (ids (table config h)) (omega arith) in
    let same = ap (λ l. length (distinct same_pair l)) (none-more (pairs_with config.lease_ms (max e.moment (now h)) (lease_calls h) (ids (table config h)))) in
    let few = w.pairs in omega (arith, fewer, same, few)

none-full : (a b : Bool) → a ≡ false → b ≡ false → (if a then Some (Full Clients) else if b then Some (Full Pairs) else None) ≡ None
none-full true b e f = absurd (cc)
none-full false true e f = absurd (cc)
none-full false false e f = refl

only-pairs : (a b : Bool) → a ≡ false → (if a then Some (Full Clients) else if b then Some (Full Pairs) else None) ≡ (if b then Some (Full Pairs) else None)
only-pairs true b e = absurd (cc)
only-pairs false b e = refl

-- THE LEASE CALL is refused exactly as a table of the live calls refuses it.
pub call-is : (config : SpaceConfig) (h : History) (e : Event) → IsWithin config h →
    (if nat_lt MAX_CLIENTS (clients_with_event config h e) then Some (Full Clients) else if nat_lt MAX_PAIRS (pairs_with_event config h e) then Some (Full Pairs) else None)
    ≡ lease_refusal config.lease_ms (max e.moment (now h)) (live_calls (table config h) (lease_calls h)) (lease_call config h e)
unfolding clients_with_event pairs_with_event
call-is config h e w = go e.ask
  where
    two : (a b c d : ℕ) → a ≡ b → c ≡ d → (if nat_lt MAX_CLIENTS a then Some (Full Clients) else if nat_lt MAX_PAIRS c then Some (Full Pairs) else None) ≡ (if nat_lt MAX_CLIENTS b then Some (Full Clients) else if nat_lt MAX_PAIRS d then Some (Full Pairs) else None)
    two a b c d p q = rw (p, q) refl

    go : (a : Ask) →
        (if nat_lt MAX_CLIENTS (clients_with_event config h (record e { ask = a })) then Some (Full Clients) else if nat_lt MAX_PAIRS (pairs_with_event config h (record e { ask = a })) then Some (Full Pairs) else None)
        ≡ lease_refusal config.lease_ms (max e.moment (now h)) (live_calls (table config h) (lease_calls h)) (lease_call config h (record e { ask = a }))
    go (Dirty client number asked objects) =
        two _ _ _ _ (clients-reported (table config h) config.lease_ms (max e.moment (now h)) (lease_calls h) (dirty_call (max e.moment (now h)) client number asked (filter (has (table config h)) objects)))
        (pairs-reported (table config h) config.lease_ms (lease_calls h) (dirty_call (max e.moment (now h)) client number asked (filter (has (table config h)) objects)))
    go (Clean client number objects true) =
        only-pairs _ _ (le-ltb MAX_CLIENTS _ (clients-few config h e w)) ∙ ap (λ n. if nat_lt MAX_PAIRS n then Some (Full Pairs) else None) (pairs-reported (table config h) config.lease_ms (lease_calls h) (clean_call (max e.moment (now h)) client number (filter (has (table config h)) objects) true))
    go (Clean client number objects false) =
        only-pairs _ _ (le-ltb MAX_CLIENTS _ (clients-few config h e w)) ∙ ap (λ n. if nat_lt MAX_PAIRS n then Some (Full Pairs) else None) (pairs-reported (table config h) config.lease_ms (lease_calls h) (clean_call (max e.moment (now h)) client number (filter (has (table config h)) objects) false))
    go _ = none-full _ _ (le-ltb MAX_CLIENTS _ (clients-few config h e w)) (le-ltb MAX_PAIRS _ (pairs-few config h e w))

-- ---- the first cause

chain : (a z b c d e f : Bool) (await more named : Option Refused) → (if c then Some (Full Awaiting) else None) ≡ await → (if f then Some (Full Names) else None) ≡ named → (if d then Some (Full Clients) else if e then Some (Full Pairs) else None) ≡ more →
    (if a then Some HistoryFull else if z then Some HistoryFull else if b then Some (Full Exports) else if c then Some (Full Awaiting) else if d then Some (Full Clients) else if e then Some (Full Pairs) else if f then Some (Full Names) else None)
    ≡ first_of_two (if a then Some HistoryFull else if z then Some HistoryFull else if b then Some (Full Exports) else None) (first_of_two await (first_of_two more named))
chain true z b c d e f await more named g h m = refl
chain false true b c d e f await more named g h m = refl
chain false false true c d e f await more named g h m = refl
chain false false false true d e f await more named g h m = ap (λ o. first_of_two o (first_of_two more named)) g
chain false false false false true e f await more named g h m = ap (λ o. first_of_two o named) m ∙ ap (λ o. first_of_two o (first_of_two more named)) g
chain false false false false false true f await more named g h m = ap (λ o. first_of_two o named) m ∙ ap (λ o. first_of_two o (first_of_two more named)) g
chain false false false false false false f await more named g h m = h ∙ ap (λ o. first_of_two o named) m ∙ ap (λ o. first_of_two o (first_of_two more named)) g

-- THE REFUSAL of an event is that for want of room, then that of the references that it returns, then that of its lease call, and then that
-- of the name that it binds.
pub refusal-is : (config : SpaceConfig) (h : History) (e : Event) (await named : Option Refused) → IsWithin config h →
    (if nat_lt MAX_AWAITING (awaiting_with_event config h e) then Some (Full Awaiting) else None) ≡ await →
    (if nat_lt MAX_NAMES (names_with_event config h e) then Some (Full Names) else None) ≡ named →
    refusal (limits config) config h e
    ≡ first_of_two (room_refusal config.stored (units h) (reserved_units h) (length (table config h)) (is_effective config h e.by e.ask) e.ask)
    (first_of_two await (first_of_two (lease_refusal config.lease_ms (max e.moment (now h)) (live_calls (table config h) (lease_calls h)) (lease_call config h e)) named))
unfolding refusal
refusal-is config h e await named w g k =
    chain (is_full (units_limit config.stored) config h e) (starts_too_many MAX_RUNNING_CALLS config h e) (nat_lt MAX_EXPORTS (exports_with_event config h e)) (nat_lt MAX_AWAITING (awaiting_with_event config h e)) (nat_lt MAX_CLIENTS (clients_with_event config h e)) (nat_lt MAX_PAIRS (pairs_with_event config h e)) (nat_lt MAX_NAMES (names_with_event config h e))
    await (lease_refusal config.lease_ms (max e.moment (now h)) (live_calls (table config h) (lease_calls h)) (lease_call config h e)) named
    g k (call-is config h e w)
    ∙ two _ _ _ _ _ _ (full-is (units_limit config.stored) config h e) (calls-are MAX_RUNNING_CALLS config h e) (exports-is config h e)
  where
    later : Option Refused
    later = first_of_two await (first_of_two (lease_refusal config.lease_ms (max e.moment (now h)) (live_calls (table config h) (lease_calls h)) (lease_call config h e)) named)

    two : (a b y z : Bool) (n m : ℕ) → a ≡ b → y ≡ z → n ≡ m →
        first_of_two (if a then Some HistoryFull else if y then Some HistoryFull else if nat_lt MAX_EXPORTS n then Some (Full Exports) else None) later
        ≡ first_of_two (if b then Some HistoryFull else if z then Some HistoryFull else if nat_lt MAX_EXPORTS m then Some (Full Exports) else None) later
    two a b y z n m p q r = rw (p, q, r) refl
