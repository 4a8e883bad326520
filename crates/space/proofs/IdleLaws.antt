-- A Tick at a moment by which no lease and no wait has ended changes nothing.
use Rattle.std.proofs.Common.{◌≡◌, ℕ, ◌≤◌, ◌<◌, inl, inr, List, [], ◌∷◌, ◌++◌, refl, ap, sym, ◌∙◌, map, max, arith, cond, length, append-nil, drop, suc, zero, ◌+◌}
use Rattle.std.specs.Prelude.{Bool, true, false, ◌&&◌, ◌||◌, not, nat_lt, filter, IsTrue, ◌↔◌, if◌then◌else◌}
use Rattle.std.specs.List.{list_any}
use Rattle.std.proofs.str.Laws.{order}
use Rattle.std.proofs.lemmas.List.{length-map}
use Rattle.std.proofs.lemmas.Bool.{and_parts, not-true, lt-ltb, le-ltb, ltb-true, ltb-false}
use Rattle.object_ids.specs.declared.ids.ObjId.{ObjId}
use Rattle.object_ids.specs.Client.{Client}
use Rattle.object_ids.specs.Same.{same_id}
use Rattle.history.specs.declared.asks.SpaceConfig.{SpaceConfig}
use Rattle.history.specs.declared.asks.Event.{Event}
use Rattle.history.specs.declared.asks.Ask.TheVariants.{Tick}
use Rattle.history.specs.declared.calls.Call.{Call}
use Rattle.history.specs.declared.places.Exported.{Exported}
use Rattle.history.specs.declared.places.Returned.{Returned}
use Rattle.history.specs.declared.places.Withdrawal.{Withdrawal}
use Rattle.history.specs.Awaiting.{same_returned, awaits, references, awaiting_references, awaiting_references_to, is_awaited, until_of}
use Rattle.history.specs.LeaseCalls.{lease_calls}
use Rattle.history.specs.Leases.{calls_of, lease_end, has_time_left, clients, clients_with_time_left, lease_rows, holds, holders, is_held, highest_is_dirty, counting_calls}
use Rattle.history.specs.Lists.{distinct}
use Rattle.history.specs.Names.{is_named, names_of}
use Rattle.history.specs.Outline.{ObjectRow, object_row, object_rows}
use Rattle.history.specs.Places.{History, now}
use Rattle.history.specs.Running.{running_calls, is_running}
use Rattle.history.specs.Table.{is_kept_locally, is_kept, is_effective, table, place_of, places, withdrawn_objects}
use Rattle.history.proofs.AwaitingLaws.{returned-equality, awaits-passed}
use Rattle.history.proofs.ListLemmas.{same_test}
use Rattle.history.proofs.NameCounts.{names-still}
use Rattle.history.proofs.Partitions.{one_if}
use Rattle.history.proofs.RunningLaws.{running_calls-push, is_running-calls}
use Rattle.history.proofs.TableLaws.{places-push, now-push, table-place, withdrawn_objects-place}
use Rattle.dgc_server.specs.StandsForCalls.{ForEachLog, SomeLeaseEnds}
use Rattle.export_table.specs.declared.waits.Wait.{Wait}
use Rattle.export_table.specs.Waits.{ends_between}
use Rattle.export_table.specs.StandsForHistory.{AreWaits, until_in, waits_once, reference_of, end_of}
use Rattle.export_table.proofs.KeptLaws.{named-counted}
use Rattle.export_table.proofs.WaitLaws.{absent-until, others-absent, awaits-until}
use Rattle.space.specs.Acts.{event_of}
use Rattle.space.specs.Idle.{IsDue, SomeLeaseIsDue, SomeWaitIsDue, SomethingEnds, leases_of, waits_of, ChangesNothing, TickChangesNothing, untold_of, withdrawals_of}
use Rattle.space.specs.Kept.{live_calls}
use Rattle.space.specs.Whole.{IsWhole}
use Rattle.space.specs.declared.tables.Tables.{Tables}
use Rattle.space.proofs.LiveLaws.{live-lease_end}
use Rattle.space.proofs.Quiet.{adds-are}

-- ---- lists

filter_alike : {X : Type 0} (p q : X → Bool) → ((x : X) → p x ≡ q x) → (xs : List X) → filter p xs ≡ filter q xs
filter_alike p q h [] = refl
filter_alike p q h (x ∷ xs) = rw (h x, filter_alike p q h xs) refl

any_alike : {X : Type 0} (p q : X → Bool) → ((x : X) → p x ≡ q x) → (xs : List X) → list_any p xs ≡ list_any q xs
any_alike p q h [] = refl
any_alike p q h (x ∷ xs) = rw (h x, any_alike p q h xs) refl

map_alike : {X Y : Type 0} (f g : X → Y) → ((x : X) → f x ≡ g x) → (xs : List X) → map f xs ≡ map g xs
map_alike f g h [] = refl
map_alike f g h (x ∷ xs) = rw (h x, map_alike f g h xs) refl

filter-twice : {X : Type 0} (p : X → Bool) (xs : List X) → filter p (filter p xs) ≡ filter p xs
filter-twice p [] = refl
filter-twice p (x ∷ xs) = go (p x) refl (filter-twice p xs)
  where
    go : (b : Bool) → p x ≡ b → filter p (filter p xs) ≡ filter p xs → filter p (cond b (x ∷ filter p xs) (filter p xs)) ≡ cond b (x ∷ filter p xs) (filter p xs)
    go true e h = rw e (ap (λ l. x ∷ l) h)
    go false e h = h

filter-none : {X : Type 0} (p : X → Bool) (xs : List X) → filter (λ x. not (p x)) (filter p xs) ≡ []
filter-none p [] = refl
filter-none p (x ∷ xs) = go (p x) refl (filter-none p xs)
  where
    go : (b : Bool) → p x ≡ b → filter (λ y. not (p y)) (filter p xs) ≡ [] → filter (λ y. not (p y)) (cond b (x ∷ filter p xs) (filter p xs)) ≡ []
    go true e h = rw e h
    go false e h = h

-- ---- moments

-- An end that is not due is passed at both moments, or at none.
same-before : (n m u : ℕ) → (n < u → u ≤ m → ⊥) → nat_lt (max m n) u ≡ nat_lt n u
same-before n m u none =
    same_test (nat_lt (max m n) u) (nat_lt n u)
    (λ h. lt-ltb n u (let l = ltb-true (max m n) u h in omega arith))
    (λ h. lt-ltb (max m n) u (let l = ltb-true n u h in elim (order m u) [ inl lt ↦ omega arith | inr le ↦ absurd (none l le) ]))

-- ---- where no lease ends

-- At the two moments each client has time left, or has none.
abbrev LeasesGoOn : ℕ → ℕ → ℕ → List Call → Type 0
LeasesGoOn lease n t calls = (c : Client) → has_time_left lease t (calls_of c calls) ≡ has_time_left lease n (calls_of c calls)

rows-alike : (lease n t : ℕ) (calls : List Call) → LeasesGoOn lease n t calls → lease_rows lease t calls ≡ lease_rows lease n calls
unfolding lease_rows clients_with_time_left
rows-alike lease n t calls h =
    ap (map (λ c. record { client = c; until = lease_end lease (calls_of c calls) }))
    (filter_alike (λ c. has_time_left lease t (calls_of c calls)) (λ c. has_time_left lease n (calls_of c calls)) h (clients calls))

holds-alike : (lease n t : ℕ) (calls : List Call) (o : ObjId) → LeasesGoOn lease n t calls → (c : Client) → holds lease t (calls_of c calls) o ≡ holds lease n (calls_of c calls) o
unfolding holds
holds-alike lease n t calls o h c = ap (λ b. b && highest_is_dirty (counting_calls lease (calls_of c calls) o)) (h c)

held-alike : (lease n t : ℕ) (calls : List Call) (o : ObjId) → LeasesGoOn lease n t calls → is_held lease t calls o ≡ is_held lease n calls o
unfolding is_held
held-alike lease n t calls o h = any_alike (λ c. holds lease t (calls_of c calls) o) (λ c. holds lease n (calls_of c calls) o) (holds-alike lease n t calls o h) (clients calls)

holders-alike : (lease n t : ℕ) (calls : List Call) (o : ObjId) → LeasesGoOn lease n t calls → holders lease t calls o ≡ holders lease n calls o
unfolding holders
holders-alike lease n t calls o h = filter_alike (λ c. holds lease t (calls_of c calls) o) (λ c. holds lease n (calls_of c calls) o) (holds-alike lease n t calls o h) (clients calls)

-- ---- the place of a Tick

-- What a Tick's place adds: no lease call, no reference, no object.
tick-calls : (config : SpaceConfig) (h : History) (by m : ℕ) → lease_calls (place_of config h (event_of by m Tick) ∷ h) ≡ lease_calls h
unfolding lease_calls place_of
tick-calls config h by m = refl

tick-references : (config : SpaceConfig) (h : History) (by m : ℕ) → references (place_of config h (event_of by m Tick) ∷ h) ≡ references h
unfolding references place_of
tick-references config h by m = refl

tick-exports : (config : SpaceConfig) (h : History) (by m : ℕ) → (place_of config h (event_of by m Tick)).exported_here ≡ []
tick-exports config h by m = adds-are config h (event_of by m Tick)

tick-awaits : (config : SpaceConfig) (h : History) (by m ack t : ℕ) (r : Returned) → awaits ack t (place_of config h (event_of by m Tick) ∷ h) r ≡ awaits ack t h r
unfolding place_of
tick-awaits config h by m ack t r = awaits-passed ack t (place_of config h (event_of by m Tick)) h r refl refl

tick-runs : (config : SpaceConfig) (events : List Event) (by m : ℕ) (o : ObjId) →
    running_calls (place_of config (places config events) (event_of by m Tick) ∷ places config events) o ≡ running_calls (places config events) o
unfolding place_of is_effective one_if
tick-runs config events by m o = let step = running_calls-push config events (event_of by m Tick) o in omega (arith, step)

-- ---- what a Tick leaves

-- At the two moments each reference awaits, or doesn't.
abbrev WaitsGoOn : ℕ → ℕ → ℕ → History → Type 0
WaitsGoOn ack n t h = (r : Returned) → awaits ack t h r ≡ awaits ack n h r

waits-alike : (config : SpaceConfig) (h : History) (by m ack n t : ℕ) → WaitsGoOn ack n t h →
    awaiting_references ack t (place_of config h (event_of by m Tick) ∷ h) ≡ awaiting_references ack n h
unfolding awaiting_references
waits-alike config h by m ack n t w =
    let g : History = place_of config h (event_of by m Tick) ∷ h in
    ap (λ l. distinct same_returned (filter (awaits ack t g) l)) (tick-references config h by m)
    ∙ ap (distinct same_returned) (filter_alike (awaits ack t g) (awaits ack n h) (λ r. tick-awaits config h by m ack t r ∙ w r) (references h))

awaited-alike : (config : SpaceConfig) (h : History) (by m ack n t : ℕ) (o : ObjId) → WaitsGoOn ack n t h →
    is_awaited ack t (place_of config h (event_of by m Tick) ∷ h) o ≡ is_awaited ack n h o
unfolding is_awaited
awaited-alike config h by m ack n t o w = ap (list_any (λ r. same_id r.object o)) (waits-alike config h by m ack n t w)

awaited-to-alike : (config : SpaceConfig) (h : History) (by m ack n t : ℕ) (o : ObjId) → WaitsGoOn ack n t h →
    awaiting_references_to ack t (place_of config h (event_of by m Tick) ∷ h) o ≡ awaiting_references_to ack n h o
unfolding awaiting_references_to
awaited-to-alike config h by m ack n t o w = ap (filter (λ r. same_id r.object o)) (waits-alike config h by m ack n t w)

named-alike : (config : SpaceConfig) (events : List Event) (by m : ℕ) (o : ObjId) →
    is_named (place_of config (places config events) (event_of by m Tick) ∷ places config events) o ≡ is_named (places config events) o
named-alike config events by m o =
    let h : History = places config events in
    sym (named-counted (place_of config h (event_of by m Tick) ∷ h) o) ∙ ap (nat_lt 0) (names-still config events (event_of by m Tick) refl o) ∙ named-counted h o

running-alike : (config : SpaceConfig) (events : List Event) (by m : ℕ) (o : ObjId) →
    is_running (place_of config (places config events) (event_of by m Tick) ∷ places config events) o ≡ is_running (places config events) o
running-alike config events by m o =
    let h : History = places config events in
    is_running-calls (place_of config h (event_of by m Tick) ∷ h) o ∙ ap (nat_lt 0) (tick-runs config events by m o) ∙ sym (is_running-calls h o)

-- Nothing ends between the greatest moment of a history and this one.
record NothingEnds (config : SpaceConfig) (h : History) (m : ℕ) : Type 0 where
  leases : LeasesGoOn config.lease_ms (now h) (max m (now h)) (lease_calls h)
  waits : WaitsGoOn config.ack_ms (now h) (max m (now h)) h

kept-alike : (config : SpaceConfig) (events : List Event) (by m : ℕ) (x : Exported) → NothingEnds config (places config events) m →
    is_kept config (place_of config (places config events) (event_of by m Tick) ∷ places config events) x ≡ is_kept config (places config events) x
unfolding is_kept is_kept_locally
kept-alike config events by m x q =
    let h : History = places config events in
    let g : History = place_of config h (event_of by m Tick) ∷ h in
    ap (λ v. (x.pinned || v || is_running g x.id) || is_awaited config.ack_ms (now g) g x.id || is_held config.lease_ms (now g) (lease_calls g) x.id) (named-alike config events by m x.id)
    ∙ ap (λ v. (x.pinned || is_named h x.id || v) || is_awaited config.ack_ms (now g) g x.id || is_held config.lease_ms (now g) (lease_calls g) x.id) (running-alike config events by m x.id)
    ∙ ap (λ v. (x.pinned || is_named h x.id || is_running h x.id) || v || is_held config.lease_ms (now g) (lease_calls g) x.id) awaited
    ∙ ap (λ v. (x.pinned || is_named h x.id || is_running h x.id) || is_awaited config.ack_ms (now h) h x.id || v) held
  where
    awaited : is_awaited config.ack_ms (now (place_of config (places config events) (event_of by m Tick) ∷ places config events)) (place_of config (places config events) (event_of by m Tick) ∷ places config events) x.id
        ≡ is_awaited config.ack_ms (now (places config events)) (places config events) x.id
    awaited =
        ap (λ t. is_awaited config.ack_ms t (place_of config (places config events) (event_of by m Tick) ∷ places config events) x.id) (now-push config (places config events) (event_of by m Tick))
        ∙ awaited-alike config (places config events) by m config.ack_ms (now (places config events)) (max m (now (places config events))) x.id q.waits

    held : is_held config.lease_ms (now (place_of config (places config events) (event_of by m Tick) ∷ places config events)) (lease_calls (place_of config (places config events) (event_of by m Tick) ∷ places config events)) x.id
        ≡ is_held config.lease_ms (now (places config events)) (lease_calls (places config events)) x.id
    held =
        ap (λ t. is_held config.lease_ms t (lease_calls (place_of config (places config events) (event_of by m Tick) ∷ places config events)) x.id) (now-push config (places config events) (event_of by m Tick))
        ∙ ap (λ l. is_held config.lease_ms (max m (now (places config events))) l x.id) (tick-calls config (places config events) by m)
        ∙ held-alike config.lease_ms (now (places config events)) (max m (now (places config events))) (lease_calls (places config events)) x.id q.leases

row-alike : (config : SpaceConfig) (events : List Event) (by m : ℕ) (x : Exported) → NothingEnds config (places config events) m →
    object_row config (place_of config (places config events) (event_of by m Tick) ∷ places config events) x ≡ object_row config (places config events) x
row-alike config events by m x q =
    let row : ℕ → ℕ → ℕ → ℕ → ObjectRow = λ running awaiting held names.
    record { object = x.id; kind = x.kind; pinned = x.pinned; running = running; awaiting = awaiting; held = held; names = names } in
    let h : History = places config events in
    let g : History = place_of config h (event_of by m Tick) ∷ h in
    let t = max m (now h) in
    ap (λ v. row v (length (awaiting_references_to config.ack_ms (now g) g x.id)) (length (holders config.lease_ms (now g) (lease_calls g) x.id)) (length (names_of g x.id))) (tick-runs config events by m x.id)
    ∙ ap (λ v. row (running_calls h x.id) (length (awaiting_references_to config.ack_ms v g x.id)) (length (holders config.lease_ms v (lease_calls g) x.id)) (length (names_of g x.id))) (now-push config h (event_of by m Tick))
    ∙ ap (λ v. row (running_calls h x.id) (length v) (length (holders config.lease_ms t (lease_calls g) x.id)) (length (names_of g x.id))) (awaited-to-alike config h by m config.ack_ms (now h) t x.id q.waits)
    ∙ ap (λ v. row (running_calls h x.id) (length (awaiting_references_to config.ack_ms (now h) h x.id)) (length (holders config.lease_ms t v x.id)) (length (names_of g x.id))) (tick-calls config h by m)
    ∙ ap (λ v. row (running_calls h x.id) (length (awaiting_references_to config.ack_ms (now h) h x.id)) (length v) (length (names_of g x.id))) (holders-alike config.lease_ms (now h) t (lease_calls h) x.id q.leases)
    ∙ ap (λ v. row (running_calls h x.id) (length (awaiting_references_to config.ack_ms (now h) h x.id)) (length (holders config.lease_ms (now h) (lease_calls h) x.id)) v) (names-still config events (event_of by m Tick) refl x.id)

-- The table has what is kept.
table-kept : (config : SpaceConfig) (h : History) → filter (is_kept config h) (table config h) ≡ table config h
unfolding table
table-kept config [] = refl
table-kept config (p ∷ before) = filter-twice (is_kept config (p ∷ before)) (table config before ++ p.exported_here)

nothing-goes : (config : SpaceConfig) (h : History) → filter (λ x. not (is_kept config h x)) (table config h) ≡ []
nothing-goes config h = ap (filter (λ x. not (is_kept config h x))) (sym (table-kept config h)) ∙ filter-none (is_kept config h) (table config h)

-- The objects of a Tick's table before it is judged.
tick-judged : (config : SpaceConfig) (h : History) (by m : ℕ) → table config h ++ (place_of config h (event_of by m Tick)).exported_here ≡ table config h
tick-judged config h by m = ap (λ l. table config h ++ l) (tick-exports config h by m) ∙ append-nil (table config h)

table-same : (config : SpaceConfig) (events : List Event) (by m : ℕ) → NothingEnds config (places config events) m →
    table config (place_of config (places config events) (event_of by m Tick) ∷ places config events) ≡ table config (places config events)
table-same config events by m q =
    let h : History = places config events in
    let g : History = place_of config h (event_of by m Tick) ∷ h in
    table-place config h (event_of by m Tick)
    ∙ ap (filter (is_kept config g)) (tick-judged config h by m)
    ∙ filter_alike (is_kept config g) (is_kept config h) (λ x. kept-alike config events by m x q) (table config h)
    ∙ table-kept config h

withdraws-none : (config : SpaceConfig) (events : List Event) (by m : ℕ) → NothingEnds config (places config events) m →
    withdrawn_objects config (place_of config (places config events) (event_of by m Tick) ∷ places config events) ≡ []
withdraws-none config events by m q =
    let h : History = places config events in
    let g : History = place_of config h (event_of by m Tick) ∷ h in
    withdrawn_objects-place config h (event_of by m Tick)
    ∙ ap (filter (λ x. not (is_kept config g x))) (tick-judged config h by m)
    ∙ filter_alike (λ x. not (is_kept config g x)) (λ x. not (is_kept config h x)) (λ x. ap not (kept-alike config events by m x q)) (table config h)
    ∙ nothing-goes config h

objects-same : (config : SpaceConfig) (events : List Event) (by m : ℕ) → NothingEnds config (places config events) m →
    object_rows config (place_of config (places config events) (event_of by m Tick) ∷ places config events) ≡ object_rows config (places config events)
objects-same config events by m q =
    let h : History = places config events in
    let g : History = place_of config h (event_of by m Tick) ∷ h in
    ap (map (object_row config g)) (table-same config events by m q)
    ∙ map_alike (object_row config g) (object_row config h) (λ x. row-alike config events by m x q) (table config h)

leases-same : (config : SpaceConfig) (h : History) (by m : ℕ) → NothingEnds config h m → leases_of config (place_of config h (event_of by m Tick) ∷ h) ≡ leases_of config h
leases-same config h by m q =
    let g : History = place_of config h (event_of by m Tick) ∷ h in
    ap (λ t. lease_rows config.lease_ms t (lease_calls g)) (now-push config h (event_of by m Tick))
    ∙ ap (lease_rows config.lease_ms (max m (now h))) (tick-calls config h by m)
    ∙ rows-alike config.lease_ms (now h) (max m (now h)) (lease_calls h) q.leases

waits-same : (config : SpaceConfig) (h : History) (by m : ℕ) → NothingEnds config h m → waits_of config (place_of config h (event_of by m Tick) ∷ h) ≡ waits_of config h
waits-same config h by m q =
    let g : History = place_of config h (event_of by m Tick) ∷ h in
    ap (λ t. awaiting_references config.ack_ms t g) (now-push config h (event_of by m Tick)) ∙ waits-alike config h by m config.ack_ms (now h) (max m (now h)) q.waits

changes-nothing : (config : SpaceConfig) (events : List Event) (by m : ℕ) → NothingEnds config (places config events) m → ChangesNothing config events (event_of by m Tick)
changes-nothing config events by m q =
    let h : History = places config events in
    let same = places-push config events (event_of by m Tick) in
    record {
      table = ap (table config) same ∙ table-same config events by m q;
      objects = ap (object_rows config) same ∙ objects-same config events by m q;
      leases = ap (leases_of config) same ∙ leases-same config h by m q;
      waits = ap (waits_of config) same ∙ waits-same config h by m q;
      withdrawn = ap (withdrawn_objects config) same ∙ withdraws-none config events by m q;
    }

-- WHERE NOTHING ENDS, A TICK CHANGES NOTHING.
pub idle-tick : (config : SpaceConfig) (events : List Event) (m : ℕ) → (SomethingEnds config events m → ⊥) → TickChangesNothing config events m
idle-tick config events m none = λ by.
    let h : History = places config events in
    changes-nothing config events by m (record {
      leases = λ c. same-before (now h) m (lease_end config.lease_ms (calls_of c (lease_calls h))) (λ a b. none (inl (c, (a, b))));
      waits = λ r. awaits-until config.ack_ms (max m (now h)) h r ∙ same-before (now h) m (until_of config.ack_ms h r) (λ a b. none (inr (r, (a, b)))) ∙ sym (awaits-until config.ack_ms (now h) h r);
    })

-- ---- what is looked at

-- The leases of a table are those of a history.
pub leases-due : (config : SpaceConfig) (h : History) (moment m : ℕ) (objects : List Exported) (b : Bool) → moment ≡ now h →
    IsTrue b ↔ SomeLeaseEnds config.lease_ms moment m (live_calls objects (lease_calls h)) → IsTrue b ↔ SomeLeaseIsDue config h m
leases-due config h moment m objects b same given = (
  λ t. let some = given.0 t in (some.0, due some.0 (lease_end config.lease_ms (calls_of some.0 (lease_calls h))) (live-lease_end objects config.lease_ms some.0 (lease_calls h)) some.1),
  λ some. given.1 (some.0, undue (lease_end config.lease_ms (calls_of some.0 (live_calls objects (lease_calls h)))) (live-lease_end objects config.lease_ms some.0 (lease_calls h)) some.1),
)
  where
    due : (c : Client) (u : ℕ) → lease_end config.lease_ms (calls_of c (live_calls objects (lease_calls h))) ≡ u →
        (moment < lease_end config.lease_ms (calls_of c (live_calls objects (lease_calls h)))) × (lease_end config.lease_ms (calls_of c (live_calls objects (lease_calls h))) ≤ m) → IsDue h m u
    due c u e (a, d) = (omega arith, omega arith)

    undue : (v : ℕ) {u : ℕ} → v ≡ u → IsDue h m u → (moment < v) × (v ≤ m)
    undue v e (a, d) = (omega arith, omega arith)

-- The waits of a table are those of a history.
own-until : (from to : ℕ) (ws : List Wait) → waits_once reference_of ws → list_any (ends_between from to) ws ≡ true →
    (w : Wait) × ((ends_between from to w ≡ true) × (until_in reference_of end_of (reference_of w) ws ≡ w.until))
own-until from to [] once h = absurd (cc)
own-until from to (w ∷ ws) once h = go (ends_between from to w) refl h (own-until from to ws once.1)
  where
    here : (b : Bool) → b ≡ true → (if b then w.until else until_in reference_of end_of (reference_of w) ws) ≡ w.until
    here true e = refl
    here false e = absurd (cc)

    later : (v : Wait) (b : Bool) → same_returned (reference_of w) (reference_of v) ≡ b → ends_between from to v ≡ true → until_in reference_of end_of (reference_of v) ws ≡ v.until →
        (if b then w.until else until_in reference_of end_of (reference_of v) ws) ≡ v.until
    later v false e p u = u
    later v true e p u =
        absurd (
        let none : until_in reference_of end_of (reference_of v) ws ≡ 0 = absent-until reference_of end_of (reference_of v) ws (others-absent reference_of w (reference_of v) ws e once.0) in
        let after = ltb-true from v.until (and_parts (not (nat_lt to v.until)) (nat_lt from v.until) p).1 in
        omega (arith, none, u, after))

    go : (b : Bool) → ends_between from to w ≡ b → (b || list_any (ends_between from to) ws) ≡ true →
        (list_any (ends_between from to) ws ≡ true → (v : Wait) × ((ends_between from to v ≡ true) × (until_in reference_of end_of (reference_of v) ws ≡ v.until))) →
        (v : Wait) × ((ends_between from to v ≡ true) × (until_in reference_of end_of (reference_of v) (w ∷ ws) ≡ v.until))
    go true e q rest = (w, (e, here (same_returned (reference_of w) (reference_of w)) (returned-equality.self (reference_of w))))
    go false e q rest =
        let found = rest q in
        (found.0, (found.1.0, later found.0 (same_returned (reference_of w) (reference_of found.0)) refl found.1.0 found.1.1))

until-there : (from to : ℕ) (r : Returned) (ws : List Wait) → from < until_in reference_of end_of r ws → until_in reference_of end_of r ws ≤ to → list_any (ends_between from to) ws ≡ true
until-there from to r [] a d = absurd (omega arith)
until-there from to r (w ∷ ws) a d = go (same_returned (reference_of w) r) a d (until-there from to r ws)
  where
    here : (b : Bool) → b ≡ true → (b || list_any (ends_between from to) ws) ≡ true
    here true e = refl
    here false e = absurd (cc)

    later : (b : Bool) → list_any (ends_between from to) ws ≡ true → (b || list_any (ends_between from to) ws) ≡ true
    later true e = refl
    later false e = e

    go : (b : Bool) → from < (if b then w.until else until_in reference_of end_of r ws) → (if b then w.until else until_in reference_of end_of r ws) ≤ to →
        (from < until_in reference_of end_of r ws → until_in reference_of end_of r ws ≤ to → list_any (ends_between from to) ws ≡ true) →
        (ends_between from to w || list_any (ends_between from to) ws) ≡ true
    go true x y rest = here (ends_between from to w) (ap (λ b. not b && nat_lt from w.until) (le-ltb to w.until y) ∙ lt-ltb from w.until x)
    go false x y rest = later (ends_between from to w) (rest x y)

pub waits-due : (config : SpaceConfig) (h : History) (moment m : ℕ) (ws : List Wait) → moment ≡ now h → AreWaits config.ack_ms moment h ws →
    IsTrue (list_any (ends_between moment m) ws) ↔ SomeWaitIsDue config h m
waits-due config h moment m ws same s = (
  λ t. found (own-until moment m ws s.once t),
  λ some. let ends = s.each some.0 in let a = some.1.0 in let d = some.1.1 in until-there moment m some.0 ws (omega arith) (omega arith),
)
  where
    found : (w : Wait) × ((ends_between moment m w ≡ true) × (until_in reference_of end_of (reference_of w) ws ≡ w.until)) → SomeWaitIsDue config h m
    found f =
        let w = f.0 in
        let two = and_parts (not (nat_lt m w.until)) (nat_lt moment w.until) f.1.0 in
        let after = ltb-true moment w.until two.1 in
        let before = ltb-false m w.until (not-true (nat_lt m w.until) two.0) in
        let ends = s.each (reference_of w) in
        let own = f.1.1 in
        (reference_of w, (omega (arith, after, before, ends, own, same), omega (arith, after, before, ends, own, same)))

-- ---- a space's tables

-- Whether a lease has ended, as its leases say, and whether a wait has, as its export table says.
pub leases-answer : (t : Tables) (m : ℕ) (b : Bool) → IsWhole t → ForEachLog t.leases (λ lease moment calls. IsTrue b ↔ SomeLeaseEnds lease moment m calls) →
    IsTrue b ↔ SomeLeaseIsDue t.config (places t.config t.events.items) m
leases-answer t m b whole f =
    let s = whole.0.stands in
    let h : History = places t.config t.events.items in
    leases-due t.config h t.moment m (table t.config h) b s.moment_is (f t.config.lease_ms t.moment (live_calls (table t.config h) (lease_calls h)) s.leases_stand)

pub waits-answer : (t : Tables) (m : ℕ) (b : Bool) → IsWhole t → b ≡ list_any (ends_between t.moment m) t.exports.waits → IsTrue b ↔ SomeWaitIsDue t.config (places t.config t.events.items) m
waits-answer t m b whole e =
    let s = whole.0.stands in
    let due = waits-due t.config (places t.config t.events.items) t.moment m t.exports.waits s.moment_is s.waits_stand in
    (λ y. due.0 (sym e ∙ y), λ some. e ∙ due.1 some)

-- ---- what is still to be told

untold-count : (n : ℕ) (ws : List Withdrawal) → n ≤ length ws → length (map (λ (w : Withdrawal). w.object) (drop n ws)) + n ≡ length ws
untold-count zero ws le = let all = length-map ws (λ (w : Withdrawal). w.object) in omega (arith, all)
untold-count (suc n) [] le = absurd (omega arith)
untold-count (suc n) (w ∷ ws) le = let rest = untold-count n ws (omega arith) in omega (arith, rest)

empty : (os : List ObjId) → length os ≡ 0 → os ≡ []
empty [] e = refl
empty (o ∷ os) e = absurd (omega arith)

untold-length : (t : Tables) → IsWhole t → length (untold_of t.config t.events.items) + t.reported ≡ length t.withdrawn.items
untold-length t whole =
    let s = whole.0.stands in
    let count = untold-count t.reported t.withdrawn.items s.reported_within in
    let same = ap length s.reported_are in
    omega (arith, count, same)

pub untold-some : (t : Tables) (k : ℕ) → IsWhole t → k ≡ length t.withdrawn.items → nat_lt t.reported k ≡ true → 0 < length (untold_of t.config t.events.items)
untold-some t k whole e h = let count = untold-length t whole in let less = ltb-true t.reported k h in omega (arith, count, less, e)

pub untold-none : (t : Tables) (k : ℕ) → IsWhole t → k ≡ length t.withdrawn.items → nat_lt t.reported k ≡ false → untold_of t.config t.events.items ≡ []
untold-none t k whole e h =
    empty (untold_of t.config t.events.items) (let count = untold-length t whole in let less = ltb-false t.reported k h in omega (arith, count, less, e))

-- ---- what is kept of the withdrawals

pub kept-all : (t : Tables) (k : ℕ) → IsWhole t → t.withdrawn.told + k ≡ length t.withdrawn.items → t.config.stored ≡ true → k ≡ length (withdrawals_of t.config t.events.items)
kept-all t k whole e stored =
    let none = whole.3.all_kept stored in
    let same = ap length whole.0.stands.withdrawn_are in
    omega (arith, e, none, same)

pub kept-untold : (t : Tables) (k : ℕ) → IsWhole t → t.withdrawn.told + k ≡ length t.withdrawn.items → t.config.stored ≡ false → k ≡ length (untold_of t.config t.events.items)
kept-untold t k whole e erased =
    let told = whole.3.untold_kept erased in
    let count = untold-length t whole in
    omega (arith, e, told, count)
