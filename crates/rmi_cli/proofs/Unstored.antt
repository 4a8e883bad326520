-- A history, what is refused after it and its outline are the same whether or not the space keeps its events, as long as there is room.
use Rattle.std.proofs.Common.{◌≡◌, ℕ, ◌+◌, ◌≤◌, Bool, true, false, List, [], ◌∷◌, ◌++◌, filter, reverse, Option, Some, None, if◌then◌else◌, refl, ap, sym, subst, ◌∙◌, arith, append_assoc, append-nil}
use Rattle.std.proofs.lemmas.Bool.{le-ltb}
use Rattle.history.specs.declared.asks.SpaceConfig.{SpaceConfig}
use Rattle.history.specs.declared.asks.Event.{Event}
use Rattle.history.specs.declared.asks.Ask.{Ask}
use Rattle.history.specs.declared.asks.Ask.TheVariants.{Open, Begin, Finish, Bind, Rebind, Lookup, Dirty, Clean}
use Rattle.history.specs.declared.limits.TheConstants.{MAX_HISTORY_UNITS, MAX_RUNNING_CALLS}
use Rattle.history.specs.declared.places.Exported.{Exported}
use Rattle.history.specs.declared.places.Place.{Place}
use Rattle.history.specs.declared.replies.Refused.{Refused}
use Rattle.history.specs.declared.replies.Refused.TheVariants.{HistoryFull}
use Rattle.history.specs.Limits.{units, units_of, reserved_units, starts, ends, limits, refusal, is_full, starts_too_many, exports_with_event, awaiting_with_event, clients_with_event, pairs_with_event, names_with_event, lease_call}
use Rattle.history.specs.Outline.{outline}
use Rattle.history.specs.Places.{History, has}
use Rattle.history.specs.Table.{table, is_kept, is_effective, exports, returned_objects, place_of, places_back, places, withdrawn_objects, withdrawals_at_end, withdrawals}
use Rattle.history.proofs.Partitions.{one_if}
use Rattle.history.proofs.RunningLaws.{reserved_units-push}
use Rattle.history.proofs.TableLaws.{ask-place_of, places-push, units-push}
use Rattle.space.specs.Standing.{standing}
use Rattle.rmi_cli.specs.Journals.{keeping, weight, withdrawn_lines}

-- ---- the table and the places

table_same : (c : SpaceConfig) (h : History) → table (keeping c) h ≡ table c h
unfolding table is_kept
table_same c [] = refl
table_same c (p ∷ before) = ap (λ (t : List Exported). filter (is_kept c (p ∷ before)) (t ++ p.exported_here)) (table_same c before)

effective_same : (c : SpaceConfig) (h : History) (by : ℕ) (a : Ask) → is_effective (keeping c) h by a ≡ is_effective c h by a
unfolding is_effective
effective_same c h by (Begin object) = ap (λ (t : List Exported). has t object) (table_same c h)
effective_same c h by (Bind name object) = rw (table_same c h) refl
effective_same c h by (Rebind name object) = ap (λ (t : List Exported). has t object) (table_same c h)
effective_same c h by _ = refl

exports_same : (c : SpaceConfig) (h : History) (a : Ask) → exports (keeping c) h a ≡ exports c h a
unfolding exports
exports_same c h (Open kind pinned) = refl
exports_same c h (Finish object made listed uid) = refl
exports_same c h _ = refl

returned_same : (c : SpaceConfig) (h : History) (a : Ask) → returned_objects (keeping c) h a ≡ returned_objects c h a
unfolding returned_objects exports
returned_same c h (Finish object made listed uid) = rw (table_same c h) refl
returned_same c h (Lookup name uid) = refl
returned_same c h _ = refl

place_same : (c : SpaceConfig) (h : History) (e : Event) → place_of (keeping c) h e ≡ place_of c h e
unfolding place_of
place_same c h e =
    let t = table_same c h in
    let f = effective_same c h e.by e.ask in
    let x = exports_same c h e.ask in
    let r = returned_same c h e.ask in
    rw (t, f, x, r) refl

back_same : (c : SpaceConfig) (events : List Event) → places_back (keeping c) events ≡ places_back c events
unfolding places_back
back_same c [] = refl
back_same c (e ∷ before) =
    let more = back_same c before in
    let one = place_same c (places_back c before) e in
    ap (λ (h : History). place_of (keeping c) h e ∷ h) more ∙ ap (λ (p : Place). p ∷ places_back c before) one

pub places_same : (c : SpaceConfig) (events : List Event) → places (keeping c) events ≡ places c events
unfolding places
places_same c events = back_same c (reverse events)

withdrawn_same : (c : SpaceConfig) (h : History) → withdrawn_objects (keeping c) h ≡ withdrawn_objects c h
unfolding withdrawn_objects is_kept
withdrawn_same c [] = refl
withdrawn_same c (p ∷ before) = refl

at_end_same : (c : SpaceConfig) (h : History) → withdrawals_at_end (keeping c) h ≡ withdrawals_at_end c h
at_end_same c [] = refl
at_end_same c (p ∷ before) = rw (withdrawn_same c (p ∷ before)) refl

withdrawals_same : (c : SpaceConfig) (h : History) → withdrawals (keeping c) h ≡ withdrawals c h
unfolding withdrawals
withdrawals_same c [] = refl
withdrawals_same c (p ∷ before) = rw (withdrawals_same c before, at_end_same c (p ∷ before)) refl

-- ---- refusals

exports_count_same : (c : SpaceConfig) (h : History) (e : Event) → exports_with_event (keeping c) h e ≡ exports_with_event c h e
unfolding exports_with_event
exports_count_same c h e = rw (table_same c h, place_same c h e) refl

awaiting_count_same : (c : SpaceConfig) (h : History) (e : Event) → awaiting_with_event (keeping c) h e ≡ awaiting_with_event c h e
unfolding awaiting_with_event
awaiting_count_same c h e = rw (place_same c h e) refl

call_same : (c : SpaceConfig) (h : History) (e : Event) → lease_call (keeping c) h e ≡ lease_call c h e
call_same c h e = rw (table_same c h) refl

clients_count_same : (c : SpaceConfig) (h : History) (e : Event) → clients_with_event (keeping c) h e ≡ clients_with_event c h e
unfolding clients_with_event
clients_count_same c h e = rw (table_same c h) refl

pairs_count_same : (c : SpaceConfig) (h : History) (e : Event) → pairs_with_event (keeping c) h e ≡ pairs_with_event c h e
unfolding pairs_with_event
pairs_count_same c h e = rw (table_same c h) refl

names_count_same : (c : SpaceConfig) (h : History) (e : Event) → names_with_event (keeping c) h e ≡ names_with_event c h e
unfolding names_with_event
names_count_same c h e = rw (place_same c h e) refl

full_same : (limit : ℕ) (c : SpaceConfig) (h : History) (e : Event) → is_full limit (keeping c) h e ≡ is_full limit c h e
unfolding is_full
full_same limit c h e = rw (place_same c h e) refl

many_same : (limit : ℕ) (c : SpaceConfig) (h : History) (e : Event) → starts_too_many limit (keeping c) h e ≡ starts_too_many limit c h e
unfolding starts_too_many
many_same limit c h e = rw (place_same c h e) refl

-- Where there is no cause to refuse an event, and the history of a space that keeps its events has room for it, there is none there either.
free_so : (full full2 : Bool) (rest rest2 : Option Refused) → rest2 ≡ rest → (if full then Some HistoryFull else rest) ≡ None → full2 ≡ false
    → (if full2 then Some HistoryFull else rest2) ≡ None
free_so true full2 rest rest2 same free room = absurd (cc)
free_so false true rest rest2 same free room = absurd (cc)
free_so false false rest rest2 same free room = same ∙ free

pub taken_same : (c : SpaceConfig) (h : History) (e : Event) → refusal (limits c) c h e ≡ None → is_full MAX_HISTORY_UNITS c h e ≡ false → refusal (limits (keeping c)) (keeping c) h e ≡ None
unfolding refusal
taken_same c h e free room =
    free_so (is_full (limits c).units c h e) (is_full MAX_HISTORY_UNITS (keeping c) h e) _ _
    (rw (many_same MAX_RUNNING_CALLS c h e, exports_count_same c h e, awaiting_count_same c h e, clients_count_same c h e, pairs_count_same c h e, names_count_same c h e) refl)
    free (full_same MAX_HISTORY_UNITS c h e ∙ room)

-- ---- room

-- A history that takes no more units than these, with those reserved, was not full before its last event.
pub room_before : (limit : ℕ) (c : SpaceConfig) (events : List Event) (e : Event) → units (places c (events ++ e ∷ [])) + reserved_units (places c (events ++ e ∷ [])) ≤ limit → is_full limit c (places c events) e ≡ false
unfolding is_full one_if
room_before limit c events e few =
    let p = place_of c (places c events) e in
    let more = units-push p (places c events) in
    let same : units_of p.event.ask ≡ units_of e.ask = ap units_of (ask-place_of c (places c events) e) in
    let step = reserved_units-push c events e in
    let now_units = ap units (places-push c events e) in
    let now_reserved = ap reserved_units (places-push c events e) in
    le-ltb (limit + (if ends p then 1 else 0)) (units (places c events) + reserved_units (places c events) + units_of e.ask + (if starts p then 1 else 0))
    (go (ends p) (starts p) more same step now_units now_reserved)
  where
    go : (a b : Bool) → units (place_of c (places c events) e ∷ places c events) ≡ units_of (place_of c (places c events) e).event.ask + units (places c events) →
        units_of (place_of c (places c events) e).event.ask ≡ units_of e.ask →
        reserved_units (place_of c (places c events) e ∷ places c events) + one_if a ≡ reserved_units (places c events) + one_if b →
        units (places c (events ++ e ∷ [])) ≡ units (place_of c (places c events) e ∷ places c events) →
        reserved_units (places c (events ++ e ∷ [])) ≡ reserved_units (place_of c (places c events) e ∷ places c events) →
        units (places c events) + reserved_units (places c events) + units_of e.ask + (if b then 1 else 0) ≤ limit + (if a then 1 else 0)
    go true true m s r u v = omega (arith, few, m, s, r, u, v)
    go true false m s r u v = omega (arith, few, m, s, r, u, v)
    go false true m s r u v = omega (arith, few, m, s, r, u, v)
    go false false m s r u v = omega (arith, few, m, s, r, u, v)

-- Each event has a unit, and an end gives one back: so the units of a history, with those reserved, never fall.
some_unit : (a : Ask) → 1 ≤ units_of a
some_unit (Finish object made listed uid) = omega arith
some_unit (Dirty client number asked objects) = omega arith
some_unit (Clean client number objects strong) = omega arith
some_unit _ = omega arith

never_less : (c : SpaceConfig) (events : List Event) (e : Event) → units (places c events) + reserved_units (places c events) ≤ units (places c (events ++ e ∷ [])) + reserved_units (places c (events ++ e ∷ []))
unfolding one_if
never_less c events e =
    let p = place_of c (places c events) e in
    let more = units-push p (places c events) in
    let some = some_unit p.event.ask in
    let step = reserved_units-push c events e in
    let now_units = ap units (places-push c events e) in
    let now_reserved = ap reserved_units (places-push c events e) in
    go (ends p) (starts p) more some step now_units now_reserved
  where
    go : (a b : Bool) → units (place_of c (places c events) e ∷ places c events) ≡ units_of (place_of c (places c events) e).event.ask + units (places c events) →
        1 ≤ units_of (place_of c (places c events) e).event.ask →
        reserved_units (place_of c (places c events) e ∷ places c events) + one_if a ≡ reserved_units (places c events) + one_if b →
        units (places c (events ++ e ∷ [])) ≡ units (place_of c (places c events) e ∷ places c events) →
        reserved_units (places c (events ++ e ∷ [])) ≡ reserved_units (place_of c (places c events) e ∷ places c events) →
        units (places c events) + reserved_units (places c events) ≤ units (places c (events ++ e ∷ [])) + reserved_units (places c (events ++ e ∷ []))
    go true true m s r u v = omega (arith, m, s, r, u, v)
    go true false m s r u v = omega (arith, m, s, r, u, v)
    go false true m s r u v = omega (arith, m, s, r, u, v)
    go false false m s r u v = omega (arith, m, s, r, u, v)

-- A front of a history takes no more than all of it.
pub front_less : (c : SpaceConfig) (h more : List Event) → weight c h ≤ weight c (h ++ more)
front_less c h [] = subst (λ (g : List Event). weight c h ≤ weight c g) (sym (append-nil h)) (omega arith)
front_less c h (e ∷ more) =
    let one = never_less c h e in
    let rest : weight c (h ++ e ∷ []) ≤ weight c (h ++ e ∷ more) = subst (λ (g : List Event). weight c (h ++ e ∷ []) ≤ weight c g) (append_assoc h (e ∷ []) more) (front_less c (h ++ e ∷ []) more) in
    omega (arith, one, rest)

-- ---- outlines

-- The outline is what stands, and a line for each withdrawal.
pub outline_same : (c : SpaceConfig) (events : List Event) → outline (keeping c) events ≡ standing c events ++ withdrawn_lines c events
unfolding outline standing
outline_same c events = rw (places_same c events, withdrawals_same c (places c events), table_same c (places c events)) refl
