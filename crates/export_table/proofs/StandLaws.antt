-- An export table stands for a history: what waits in it, and what its rows count.
use Rattle.std.proofs.Common.{◌≡◌, ℕ, suc, ◌+◌, ◌-◌, ◌<◌, ◌≤◌, List, [], ◌∷◌, ◌++◌, length, refl, ap, sym, subst, ◌∙◌, cond, map, max, arith, Option, Some, None, append-nil}
use Rattle.std.specs.Prelude.{Bool, true, false, not, ◌&&◌, ◌||◌, filter, find, flat_map, nat_lt, if◌then◌else◌, is_none, is_some, option_and_then, option_map, option_to_list, unwrap_or}
use Rattle.std.specs.List.{list_any}
use Rattle.std.proofs.lemmas.Bool.{and_parts, ltb-true}
use Rattle.object_ids.specs.declared.ids.Uid.{Uid}
use Rattle.object_ids.specs.declared.ids.ObjId.{ObjId}
use Rattle.object_ids.specs.Same.{same_id, same_uid, same_bytes}
use Rattle.object_ids.proofs.Exact.{same_id-equal, same_id-self}
use Rattle.history.specs.declared.asks.SpaceConfig.{SpaceConfig}
use Rattle.history.specs.declared.asks.Event.{Event}
use Rattle.history.specs.declared.asks.Ask.{Ask}
use Rattle.history.specs.declared.asks.Ask.TheVariants.{Begin, Finish, Abandon, Ack, Bind, Rebind, Unbind, Lookup}
use Rattle.history.specs.declared.places.Exported.{Exported}
use Rattle.history.specs.declared.places.Returned.{Returned}
use Rattle.history.specs.Awaiting.{same_returned, returned_references, return_uid, is_ack_of, awaiting_references, awaiting_references_to, until_of}
use Rattle.history.specs.Names.{name_in, object_bound, is_name_change, is_name_of, names, names_of, stands_for}
use Rattle.history.specs.Places.{History, has, now}
use Rattle.history.specs.Running.{is_begin_of, is_end_of, running_calls}
use Rattle.history.specs.Table.{is_effective, table, place_of, places}
use Rattle.history.proofs.ListLemmas.{list_any-length, list_any-map, and_false, Somewhere-test, test-Somewhere}
use Rattle.history.proofs.NameLaws.{bytes-equality, names-member}
use Rattle.history.proofs.NameCounts.{is_object, names_less, names_more, names-counted, names-still}
use Rattle.history.proofs.Partitions.{one_if}
use Rattle.history.proofs.RunningLaws.{running_calls-push}
use Rattle.history.proofs.TableLaws.{ask-place_of, places-push}
use Rattle.export_table.specs.declared.rows.Export.{Export}
use Rattle.export_table.specs.declared.waits.Wait.{Wait}
use Rattle.export_table.specs.ExportRows.{is_of, is_exported, kind_of, running_of, pins_of, with_row_changed, with_call_begun, with_call_ended, pinned_once, unpinned_once, with_pin_removed}
use Rattle.export_table.specs.StandsForHistory.{row_of, rows_of, waits_once, references, reference_of, end_of, WaitsStand, AreWaits, NoneAwaits, WaitingAwaits, WaitingStands, ReturnLists, AckEnds, RowsCount, BeginCounts, EndsCallOf, EndCounts, BindPins, RebindPins, UnbindUnpins}
use Rattle.export_table.specs.Waits.{still_waiting, is_waiting, with_listed as listed_wait, with_each_listed}
use Rattle.export_table.proofs.WaitLaws.{until-none, waits-await, waiting_refs, refs-any, refs-await, refs-waiting-once, count-awaiting, count-awaiting_of}
use Rattle.export_table.proofs.WaitSteps.{until_in-find, waits-later, going, going-until, but, listed, listed-once, listed_all, waits-push, waits-push-ack}
use Rattle.history.proofs.ListLemmas.{AllOnce-filter}
use Rattle.history.proofs.Equalities.{same_id-turned}

-- ---- the references that await

refs-of : {W : Type 0} (ref : W → Returned) (until : W → ℕ) (t : ℕ) (o : ObjId) (ws : List W) →
    length (filter (λ r. same_id r.object o) (waiting_refs ref until t ws)) ≡ length (filter (λ w. nat_lt t (until w) && same_id (ref w).object o) ws)
refs-of ref until t o [] = refl
refs-of {W} ref until t o (w ∷ ws) = go (nat_lt t (until w)) (refs-of ref until t o ws)
  where
    kept : (b : Bool) (xs : List Returned) (ys : List W) → length xs ≡ length ys → length (cond b (ref w ∷ xs) xs) ≡ length (cond b (w ∷ ys) ys)
    kept true xs ys h = ap suc h
    kept false xs ys h = h

    go : (b : Bool) → length (filter (λ r. same_id r.object o) (waiting_refs ref until t ws)) ≡ length (filter (λ v. nat_lt t (until v) && same_id (ref v).object o) ws) →
        length (filter (λ r. same_id r.object o) (map ref (cond b (w ∷ filter (λ v. nat_lt t (until v)) ws) (filter (λ v. nat_lt t (until v)) ws))))
        ≡ length (cond (b && same_id (ref w).object o) (w ∷ filter (λ v. nat_lt t (until v) && same_id (ref v).object o) ws) (filter (λ v. nat_lt t (until v) && same_id (ref v).object o) ws))
    go true h = kept (same_id (ref w).object o) (filter (λ r. same_id r.object o) (waiting_refs ref until t ws)) (filter (λ v. nat_lt t (until v) && same_id (ref v).object o) ws) h
    go false h = h

refs-length : {W : Type 0} (ref : W → Returned) (until : W → ℕ) (t : ℕ) (ws : List W) → length (waiting_refs ref until t ws) ≡ length (filter (λ w. nat_lt t (until w)) ws)
refs-length ref until t ws = go (filter (λ w. nat_lt t (until w)) ws)
  where
    go : (vs : List _) → length (map ref vs) ≡ length vs
    go [] = refl
    go (v ∷ vs) = ap suc (go vs)

-- HOW MANY REFERENCES AWAIT, by a list of waits.
pub awaiting-counted : {W : Type 0} (ref : W → Returned) (until : W → ℕ) (ack m t : ℕ) (h : History) (ws : List W) → m ≤ t → WaitsStand ref until ack m h ws →
    length (awaiting_references ack t h) ≡ length (filter (λ w. nat_lt t (until w)) ws)
awaiting-counted ref until ack m t h ws le s =
    count-awaiting ack t h (waiting_refs ref until t ws) (refs-waiting-once ref until t ws s.once) (refs-await ref until ack m t h ws le s) ∙ refs-length ref until t ws

pub awaiting_of-counted : {W : Type 0} (ref : W → Returned) (until : W → ℕ) (ack m t : ℕ) (h : History) (o : ObjId) (ws : List W) → m ≤ t → WaitsStand ref until ack m h ws →
    length (awaiting_references_to ack t h o) ≡ length (filter (λ w. nat_lt t (until w) && same_id (ref w).object o) ws)
awaiting_of-counted ref until ack m t h o ws le s =
    count-awaiting_of ack t h o (waiting_refs ref until t ws) (refs-waiting-once ref until t ws s.once) (refs-await ref until ack m t h ws le s) ∙ refs-of ref until t o ws

-- A reference is among those of a list of waits exactly where it waits.
pub any-waiting : (t : ℕ) (r : Returned) (waits : List Wait) → list_any (same_returned r) (waiting_refs reference_of end_of t waits) ≡ is_waiting t r.object r.uid waits
any-waiting t r waits = refs-any reference_of end_of t r waits

-- ---- one after another

-- A wait that is listed, as the laws of lists of waits say it.
listed-is : (ack t : ℕ) (r : Returned) (waits : List Wait) → listed reference_of end_of (λ s n. record { object = s.object; uid = s.uid; until = n }) ack t r waits ≡ listed_wait ack t r.object r.uid waits
listed-is ack t r waits =
    ap (λ (n : ℕ). but reference_of r (going end_of t waits) ++ record { object = r.object; uid = r.uid; until = max (t + ack) n } ∷ []) (until_in-find reference_of end_of r waits)

pub listed-each-is : (ack t : ℕ) (uid : Uid) (os : List ObjId) (waits : List Wait) →
    listed_all reference_of end_of (λ s n. record { object = s.object; uid = s.uid; until = n }) ack t (references uid os) waits ≡ with_each_listed ack t uid os waits
listed-each-is ack t uid [] waits = refl
listed-each-is ack t uid (o ∷ os) waits =
    ap (listed_all reference_of end_of (λ s n. record { object = s.object; uid = s.uid; until = n }) ack t (references uid os)) (listed-is ack t (record { object = o; uid = uid }) waits)
    ∙ listed-each-is ack t uid os (listed_wait ack t o uid waits)

pub listed-stays-once : (ack t : ℕ) (o : ObjId) (uid : Uid) (waits : List Wait) → waits_once reference_of waits → waits_once reference_of (listed_wait ack t o uid waits)
listed-stays-once ack t o uid waits once =
    let P : List Wait → Type 0 = λ ws. waits_once reference_of ws in
    subst P (listed-is ack t (record { object = o; uid = uid }) waits)
    (listed-once reference_of end_of (λ s n. record { object = s.object; uid = s.uid; until = n }) ack t (record { object = o; uid = uid }) waits (λ s n. refl) once)

-- ---- what ended is forgotten

pub waits-going : (m : ℕ) (ack : ℕ) (h : History) (ws : List Wait) → WaitsStand reference_of end_of ack m h ws → WaitsStand reference_of end_of ack m h (still_waiting m ws)
waits-going m ack h ws w = record {
  once = AllOnce-filter (λ a b. same_returned (reference_of a) (reference_of b)) (λ v. nat_lt m (end_of v)) ws w.once;
  each = λ r. going-until reference_of end_of m r ws w.once ∙ w.each r;
}

-- ---- the rows

-- An exported object with this many running calls and pins.
abbrev pub row_with : (ObjId → ℕ) → (ObjId → ℕ) → Exported → Export
row_with count pins x = record { id = x.id; kind = x.kind; pinned = x.pinned; running = count x.id; pins = pins x.id }

-- How many names stand for an object.
abbrev pub names_for : History → ObjId → ℕ
names_for h o = length (names_of h o)

-- They are some of the names.
names-few : (h : History) (o : ObjId) → names_for h o ≤ length (names h)
unfolding names_of
names-few h o = go (names h)
  where
    go : (ns : List (List ℕ)) → length (filter (is_name_of h o) ns) ≤ length ns
    go [] = omega arith
    go (n ∷ ns) = kept (is_name_of h o n) (go ns)
      where
        kept : (b : Bool) → length (filter (is_name_of h o) ns) ≤ length ns → length (cond b (n ∷ filter (is_name_of h o) ns) (filter (is_name_of h o) ns)) ≤ length (n ∷ ns)
        kept true r = omega (arith, r)
        kept false r = omega (arith, r)

-- There is one where a name stands for the object.
pub named-pins : (config : SpaceConfig) (events : List Event) (n : List ℕ) (o : ObjId) → stands_for (places config events) n ≡ Some o → 0 < names_for (places config events) o
unfolding names_of
named-pins config events n o s =
    ltb-true 0 (names_for (places config events) o) (sym (list_any-length (is_name_of (places config events) o) (names (places config events)))
    ∙ test-Somewhere (λ k. same_bytes n k ≡ true) (is_name_of (places config events) o)
    (λ k e. ap (λ z. is_name_of (places config events) o z) (sym (bytes-equality.equal n k e)) ∙ ap (is_object o) s ∙ same_id-self o)
    (names (places config events)) (Somewhere-test (same_bytes n) (names (places config events)) (names-member config events n ∙ ap is_some s)))

-- An object is exported by the rows exactly where it is in the table.
pub exported-has : (h : History) (objects : List Exported) (o : ObjId) → is_exported (rows_of h objects) o ≡ has objects o
exported-has h objects o = list_any-map (is_of o) (row_of h) objects

pub kind-is : (h : History) (objects : List Exported) (o : ObjId) → kind_of (rows_of h objects) o ≡ option_map (λ (x : Exported). x.kind) (find (λ x. same_id x.id o) objects)
kind-is h [] o = refl
kind-is h (x ∷ objects) o = go (same_id x.id o) (kind-is h objects o)
  where
    go : (b : Bool) → kind_of (rows_of h objects) o ≡ option_map (λ (y : Exported). y.kind) (find (λ y. same_id y.id o) objects) →
        option_map (λ (y : Export). y.kind) (cond b (Some (row_of h x)) (find (is_of o) (rows_of h objects))) ≡ option_map (λ (y : Exported). y.kind) (cond b (Some x) (find (λ y. same_id y.id o) objects))
    go true e = refl
    go false e = e

-- How many calls run of an object that is exported, and of any.
pub running-there : (h : History) (objects : List Exported) (o : ObjId) → has objects o ≡ true → running_of (rows_of h objects) o ≡ running_calls h o
running-there h [] o t = absurd (cc)
running-there h (x ∷ objects) o t = go (same_id x.id o) refl t (running-there h objects o)
  where
    go : (b : Bool) → same_id x.id o ≡ b → (b || has objects o) ≡ true → (has objects o ≡ true → running_of (rows_of h objects) o ≡ running_calls h o) →
        unwrap_or (option_map (λ (y : Export). y.running) (cond b (Some (row_of h x)) (find (is_of o) (rows_of h objects)))) 0 ≡ running_calls h o
    go true e t rest = ap (running_calls h) (same_id-equal x.id o e)
    go false e t rest = rest t

pub running-few : (h : History) (objects : List Exported) (o : ObjId) → running_of (rows_of h objects) o ≤ running_calls h o
running-few h [] o = omega arith
running-few h (x ∷ objects) o = go (same_id x.id o) refl (running-few h objects o)
  where
    go : (b : Bool) → same_id x.id o ≡ b → running_of (rows_of h objects) o ≤ running_calls h o →
        unwrap_or (option_map (λ (y : Export). y.running) (cond b (Some (row_of h x)) (find (is_of o) (rows_of h objects)))) 0 ≤ running_calls h o
    go true e rest = let same = ap (running_calls h) (same_id-equal x.id o e) in omega (arith, same)
    go false e rest = rest

-- How many pins an object has that is exported, and any.
pub pins-there : (h : History) (objects : List Exported) (o : ObjId) → has objects o ≡ true → pins_of (rows_of h objects) o ≡ names_for h o
pins-there h [] o t = absurd (cc)
pins-there h (x ∷ objects) o t = go (same_id x.id o) refl t (pins-there h objects o)
  where
    go : (b : Bool) → same_id x.id o ≡ b → (b || has objects o) ≡ true → (has objects o ≡ true → pins_of (rows_of h objects) o ≡ names_for h o) →
        unwrap_or (option_map (λ (y : Export). y.pins) (cond b (Some (row_of h x)) (find (is_of o) (rows_of h objects)))) 0 ≡ names_for h o
    go true e t rest = ap (names_for h) (same_id-equal x.id o e)
    go false e t rest = rest t

pub pins-few : (h : History) (objects : List Exported) (o : ObjId) → pins_of (rows_of h objects) o ≤ length (names h)
pins-few h [] o = omega arith
pins-few h (x ∷ objects) o = go (same_id x.id o) (pins-few h objects o)
  where
    go : (b : Bool) → pins_of (rows_of h objects) o ≤ length (names h) →
        unwrap_or (option_map (λ (y : Export). y.pins) (cond b (Some (row_of h x)) (find (is_of o) (rows_of h objects)))) 0 ≤ length (names h)
    go true rest = names-few h x.id
    go false rest = rest

pub count-push : (config : SpaceConfig) (events : List Event) (e : Event) (o : ObjId) →
    running_calls (place_of config (places config events) e ∷ places config events) o + one_if (is_effective config (places config events) e.by e.ask && is_end_of o e.ask)
    ≡ running_calls (places config events) o + one_if (is_effective config (places config events) e.by e.ask && is_begin_of o e.ask)
unfolding place_of
count-push config events e o = running_calls-push config events e o

-- The rows, where the counts of running calls and of pins are the old and the new ones.
pub row-same : (old new pold pnew : ObjId → ℕ) → ((o : ObjId) → new o ≡ old o) → ((o : ObjId) → pnew o ≡ pold o) → (objects : List Exported) → map (row_with old pold) objects ≡ map (row_with new pnew) objects
row-same old new pold pnew same still [] = refl
row-same old new pold pnew same still (x ∷ objects) = rw (same x.id, still x.id, row-same old new pold pnew same still objects) refl

pub row-changed : (old new pold pnew : ObjId → ℕ) (f : Export → Export) (o : ObjId) → ((x : Exported) → (if same_id x.id o then f (row_with old pold x) else row_with old pold x) ≡ row_with new pnew x) → (objects : List Exported) →
    with_row_changed f o (map (row_with old pold) objects) ≡ map (row_with new pnew) objects
row-changed old new pold pnew f o same [] = refl
row-changed old new pold pnew f o same (x ∷ objects) = rw (same x, row-changed old new pold pnew f o same objects) refl

pub begun-row : (old new pold pnew : ObjId → ℕ) (x : Exported) (b : Bool) → new x.id ≡ old x.id + one_if b → pnew x.id ≡ pold x.id → (if b then with_call_begun (row_with old pold x) else row_with old pold x) ≡ row_with new pnew x
unfolding one_if
begun-row old new pold pnew x true e s = rw (e, s) refl
begun-row old new pold pnew x false e s = (let same : new x.id ≡ old x.id = omega (arith, e) in rw (same, s) refl)

pub ended-row : (old new pold pnew : ObjId → ℕ) (x : Exported) (b : Bool) → new x.id + one_if b ≡ old x.id → pnew x.id ≡ pold x.id → (if b then with_call_ended (row_with old pold x) else row_with old pold x) ≡ row_with new pnew x
unfolding one_if
ended-row old new pold pnew x true e s = (let same : old x.id - 1 ≡ new x.id = omega (arith, e) in rw (same, s) refl)
ended-row old new pold pnew x false e s = (let same : old x.id ≡ new x.id = omega (arith, e) in rw (same, s) refl)

pub pinned-row : (old new pold pnew : ObjId → ℕ) (x : Exported) (b : Bool) → new x.id ≡ old x.id → pnew x.id ≡ pold x.id + one_if b → (if b then pinned_once (row_with old pold x) else row_with old pold x) ≡ row_with new pnew x
unfolding one_if
pinned-row old new pold pnew x true s e = rw (e, s) refl
pinned-row old new pold pnew x false s e = (let same : pnew x.id ≡ pold x.id = omega (arith, e) in rw (same, s) refl)

pub unpinned-row : (old new pold pnew : ObjId → ℕ) (x : Exported) (b : Bool) → new x.id ≡ old x.id → pnew x.id + one_if b ≡ pold x.id → (if b then unpinned_once (row_with old pold x) else row_with old pold x) ≡ row_with new pnew x
unfolding one_if
unpinned-row old new pold pnew x true s e = (let same : pold x.id - 1 ≡ pnew x.id = omega (arith, e) in rw (same, s) refl)
unpinned-row old new pold pnew x false s e = (let same : pold x.id ≡ pnew x.id = omega (arith, e) in rw (same, s) refl)

-- The rows without a pin of this object, if there is one.
pub rows-unpinned : (old new pold pnew : ObjId → ℕ) (stood : Option ObjId) → ((o : ObjId) → new o ≡ old o) → ((o : ObjId) → pnew o + one_if (is_object o stood) ≡ pold o) → (objects : List Exported) →
    with_pin_removed stood (map (row_with old pold) objects) ≡ map (row_with new pnew) objects
unfolding one_if
rows-unpinned old new pold pnew None same less objects = row-same old new pold pnew same (λ o. let step = less o in omega (arith, step)) objects
rows-unpinned old new pold pnew (Some q) same less objects =
    row-changed old new pold pnew unpinned_once q (λ x. unpinned-row old new pold pnew x (same_id x.id q) (same x.id) (let step = less x.id in let turn = ap one_if (same_id-turned q x.id) in omega (arith, step, turn))) objects

pub rows-pinned : (old new pold pnew : ObjId → ℕ) (o : ObjId) → ((y : ObjId) → new y ≡ old y) → ((y : ObjId) → pnew y ≡ pold y + one_if (same_id o y)) → (objects : List Exported) →
    with_row_changed pinned_once o (map (row_with old pold) objects) ≡ map (row_with new pnew) objects
rows-pinned old new pold pnew o same more objects =
    row-changed old new pold pnew pinned_once o (λ x. pinned-row old new pold pnew x (same_id x.id o) (same x.id) (let step = more x.id in let turn = ap one_if (same_id-turned o x.id) in omega (arith, step, turn))) objects

none-of : one_if false ≡ 0
unfolding one_if
none-of = refl

-- ---- THE LAWS of waits

pub none-awaits : NoneAwaits
none-awaits ack = record { once = tt; each = λ r. rw (until-none ack r) refl }

pub waiting-awaits : WaitingAwaits
waiting-awaits ack m t h waits le s = (
  λ o u. waits-await reference_of end_of ack m t h waits le s (record { object = o; uid = u }),
  sym (awaiting-counted reference_of end_of ack m t h waits le s),
  λ o. sym (awaiting_of-counted reference_of end_of ack m t h o waits le s),
)

pub waiting-stands : WaitingStands
waiting-stands ack m t h waits le s = waits-going t ack h waits (waits-later reference_of end_of m t (until_of ack h) waits le s)

no-ack : (a : Ask) (uid u : Uid) → return_uid a ≡ Some uid → is_ack_of u a ≡ false
no-ack (Finish o made listed x) uid u r = refl
no-ack (Lookup n x) uid u r = refl
no-ack (Ack x) uid u r = absurd (cc)
no-ack _ uid u r = absurd (cc)

pub return-lists : ReturnLists
return-lists config events e uid waits r s =
    let m : ℕ = max e.moment (now (places config events)) in
    let asked = ask-place_of config (places config events) e in
    let pushed = waits-push reference_of end_of (λ x n. record { object = x.object; uid = x.uid; until = n }) config events e waits (λ x n. refl) (λ x n. refl)
    (λ u. ap (is_ack_of u) asked ∙ no-ack e.ask uid u r) s in
    let all : returned_references (place_of config (places config events) e) ≡ references uid (place_of config (places config events) e).returned_here =
    ap (λ u. flat_map (λ x. map (λ o. record { object = o; uid = x }) (place_of config (places config events) e).returned_here) (option_to_list u)) (ap return_uid asked ∙ r) ∙ one_list uid (place_of config (places config events) e).returned_here in
    let H : History → Type 0 = λ h. AreWaits config.ack_ms (max e.moment (now (places config events))) h (with_each_listed config.ack_ms (max e.moment (now (places config events))) uid (place_of config (places config events) e).returned_here waits) in
    let R : List Returned → Type 0 = λ rs. AreWaits config.ack_ms (max e.moment (now (places config events))) (place_of config (places config events) e ∷ places config events)
    (listed_all reference_of end_of (λ x n. record { object = x.object; uid = x.uid; until = n }) config.ack_ms (max e.moment (now (places config events))) rs waits) in
    let W : List Wait → Type 0 = λ ws. AreWaits config.ack_ms (max e.moment (now (places config events))) (place_of config (places config events) e ∷ places config events) ws in
    subst H (sym (places-push config events e)) (subst W (listed-each-is config.ack_ms (max e.moment (now (places config events))) uid (place_of config (places config events) e).returned_here waits) (subst R all pushed))
  where
    one_list : (u : Uid) (os : List ObjId) → flat_map (λ x. map (λ o. record { object = o; uid = x }) os) (u ∷ []) ≡ references u os
    one_list u os = append-nil (references u os)

pub ack-ends : AckEnds
ack-ends config events e uid waits a s =
    let H : History → Type 0 = λ h. AreWaits config.ack_ms (max e.moment (now (places config events))) h (filter (λ w. not (same_uid w.uid uid)) waits) in
    subst H (sym (places-push config events e)) (waits-push-ack reference_of end_of config events e uid waits a s)

-- ---- THE LAWS of rows

pub rows-count : RowsCount
rows-count h objects o t = running-there h objects o t

-- An ask that changes no name leaves the pins.
asked-no-name : (config : SpaceConfig) (events : List Event) (e : Event) (a : Ask) → e.ask ≡ a → is_name_change a ≡ false → (o : ObjId) →
    names_for (place_of config (places config events) e ∷ places config events) o ≡ names_for (places config events) o
asked-no-name config events e a s n = names-still config events e (ap is_name_change s ∙ n)

pub begin-counts : BeginCounts
begin-counts config events e o objects asked eff =
    let old : ObjId → ℕ = running_calls (places config events) in
    let new : ObjId → ℕ = running_calls (place_of config (places config events) e ∷ places config events) in
    let pold : ObjId → ℕ = names_for (places config events) in
    let pnew : ObjId → ℕ = names_for (place_of config (places config events) e ∷ places config events) in
    let H : History → Type 0 = λ h. with_row_changed with_call_begun o (rows_of (places config events) objects) ≡ rows_of h objects in
    subst H (sym (places-push config events e)) (row-changed old new pold pnew with_call_begun o (λ x. begun-row old new pold pnew x (same_id x.id o) (step x.id) (asked-no-name config events e (Begin o) asked refl x.id)) objects)
  where
    step : (x : ObjId) → running_calls (place_of config (places config events) e ∷ places config events) x ≡ running_calls (places config events) x + one_if (same_id x o)
    step x =
        let push = count-push config events e x in
        let ends : one_if (is_effective config (places config events) e.by e.ask && is_end_of x e.ask) ≡ one_if false = ap (λ a. one_if (is_effective config (places config events) e.by e.ask && is_end_of x a)) asked ∙ ap (λ v. one_if (v && false)) eff in
        let begins : one_if (is_effective config (places config events) e.by e.ask && is_begin_of x e.ask) ≡ one_if (same_id x o) =
        ap (λ a. one_if (is_effective config (places config events) e.by e.ask && is_begin_of x a)) asked ∙ ap (λ v. one_if (v && same_id o x)) eff ∙ ap one_if (same_id-turned o x) in
        let zero_if = none-of in
        omega (arith, push, ends, begins, zero_if)

pub end-counts : EndCounts
end-counts config events e o objects asked eff =
    let old : ObjId → ℕ = running_calls (places config events) in
    let new : ObjId → ℕ = running_calls (place_of config (places config events) e ∷ places config events) in
    let pold : ObjId → ℕ = names_for (places config events) in
    let pnew : ObjId → ℕ = names_for (place_of config (places config events) e ∷ places config events) in
    let H : History → Type 0 = λ h. with_row_changed with_call_ended o (rows_of (places config events) objects) ≡ rows_of h objects in
    subst H (sym (places-push config events e)) (row-changed old new pold pnew with_call_ended o (λ x. ended-row old new pold pnew x (same_id x.id o) (step x.id) (names-still config events e (no-name e.ask asked) x.id)) objects)
  where
    no-name : (a : Ask) → EndsCallOf o a → is_name_change a ≡ false
    no-name (Finish object made listed uid) h = refl
    no-name (Abandon object) h = refl
    no-name _ h = absurd h

    is-end : (a : Ask) (x : ObjId) → EndsCallOf o a → is_end_of x a ≡ same_id o x
    is-end (Finish object made listed uid) x h = ap (λ y. same_id y x) h
    is-end (Abandon object) x h = ap (λ y. same_id y x) h
    is-end _ x h = absurd h

    no-begin : (a : Ask) (x : ObjId) → EndsCallOf o a → is_begin_of x a ≡ false
    no-begin (Finish object made listed uid) x h = refl
    no-begin (Abandon object) x h = refl
    no-begin _ x h = absurd h

    step : (x : ObjId) → running_calls (place_of config (places config events) e ∷ places config events) x + one_if (same_id x o) ≡ running_calls (places config events) x
    step x =
        let push = count-push config events e x in
        let ends : one_if (is_effective config (places config events) e.by e.ask && is_end_of x e.ask) ≡ one_if (same_id x o) =
        ap (λ v. one_if (v && is_end_of x e.ask)) eff ∙ ap one_if (is-end e.ask x asked ∙ same_id-turned o x) in
        let begins : one_if (is_effective config (places config events) e.by e.ask && is_begin_of x e.ask) ≡ one_if false =
        ap (λ v. one_if (v && is_begin_of x e.ask)) eff ∙ ap one_if (no-begin e.ask x asked) in
        let zero_if = none-of in
        omega (arith, push, ends, begins, zero_if)

-- ---- THE LAWS of pins

-- An ask on names leaves the running calls.
names-no-call : (config : SpaceConfig) (events : List Event) (e : Event) → is_name_change e.ask ≡ true → (o : ObjId) →
    running_calls (place_of config (places config events) e ∷ places config events) o ≡ running_calls (places config events) o
names-no-call config events e change o =
    let push = count-push config events e o in
    let ends : one_if (is_effective config (places config events) e.by e.ask && is_end_of o e.ask) ≡ one_if false = ap (λ v. one_if (is_effective config (places config events) e.by e.ask && v)) (no-end e.ask change) ∙ ap one_if (and_false (is_effective config (places config events) e.by e.ask)) in
    let begins : one_if (is_effective config (places config events) e.by e.ask && is_begin_of o e.ask) ≡ one_if false = ap (λ v. one_if (is_effective config (places config events) e.by e.ask && v)) (no-begin e.ask change) ∙ ap one_if (and_false (is_effective config (places config events) e.by e.ask)) in
    let zero_if = none-of in
    omega (arith, push, ends, begins, zero_if)
  where
    no-end : (a : Ask) → is_name_change a ≡ true → is_end_of o a ≡ false
    no-end (Bind n x) h = refl
    no-end (Rebind n x) h = refl
    no-end (Unbind n) h = refl
    no-end _ h = absurd (cc)

    no-begin : (a : Ask) → is_name_change a ≡ true → is_begin_of o a ≡ false
    no-begin (Bind n x) h = refl
    no-begin (Rebind n x) h = refl
    no-begin (Unbind n) h = refl
    no-begin _ h = absurd (cc)

-- How many names stand for an object after an effective ask.
names-step : (config : SpaceConfig) (events : List Event) (e : Event) (a : Ask) → e.ask ≡ a → is_effective config (places config events) e.by e.ask ≡ true → (o : ObjId) →
    names_for (place_of config (places config events) e ∷ places config events) o + one_if (is_name_change a && is_object o (option_and_then (stands_for (places config events)) (name_in a)))
    ≡ names_for (places config events) o + one_if (is_object o (object_bound a))
names-step config events e a asked eff o =
    let step = names-counted config events e o in
    let less : one_if (names_less (is_effective config (places config events) e.by e.ask) (option_and_then (stands_for (places config events)) (name_in e.ask)) e.ask o) ≡ one_if (is_name_change a && is_object o (option_and_then (stands_for (places config events)) (name_in a))) =
    ap (λ v. one_if (names_less v (option_and_then (stands_for (places config events)) (name_in e.ask)) e.ask o)) eff ∙ ap (λ b. one_if (names_less true (option_and_then (stands_for (places config events)) (name_in b)) b o)) asked in
    let more : one_if (names_more (is_effective config (places config events) e.by e.ask) e.ask o) ≡ one_if (is_object o (object_bound a)) =
    ap (λ v. one_if (names_more v e.ask o)) eff ∙ ap (λ b. one_if (names_more true b o)) asked in
    omega (arith, step, less, more)

-- What a name that is bound stood for: nothing.
pub bind-stood : (config : SpaceConfig) (h : History) (by : ℕ) (n : List ℕ) (o : ObjId) → is_effective config h by (Bind n o) ≡ true → stands_for h n ≡ None
unfolding is_effective
bind-stood config h by n o eff = go (stands_for h n) (and_parts (has (table config h) o) (is_none (stands_for h n)) eff).1
  where
    go : (s : Option ObjId) → is_none s ≡ true → s ≡ None
    go None i = refl
    go (Some x) i = absurd (cc)

pub bind-pins : BindPins
bind-pins config events e n o objects asked eff =
    let H : History → Type 0 = λ h. with_row_changed pinned_once o (rows_of (places config events) objects) ≡ rows_of h objects in
    subst H (sym (places-push config events e)) (rows-pinned (running_calls (places config events)) (running_calls (place_of config (places config events) e ∷ places config events)) (names_for (places config events)) (names_for (place_of config (places config events) e ∷ places config events)) o
    (names-no-call config events e (ap is_name_change asked)) step objects)
  where
    step : (y : ObjId) → names_for (place_of config (places config events) e ∷ places config events) y ≡ names_for (places config events) y + one_if (same_id o y)
    step y =
        let all = names-step config events e (Bind n o) asked eff y in
        let none : one_if (is_object y (stands_for (places config events) n)) ≡ one_if false =
        ap (λ s. one_if (is_object y s)) (bind-stood config (places config events) e.by n o (ap (is_effective config (places config events) e.by) (sym asked) ∙ eff)) in
        let zero_if = none-of in
        omega (arith, all, none, zero_if)

pub rebind-pins : RebindPins
rebind-pins config events e n o objects asked eff =
    let H : History → Type 0 = λ h. with_pin_removed (stands_for (places config events) n) (with_row_changed pinned_once o (rows_of (places config events) objects)) ≡ rows_of h objects in
    let more : ObjId → ℕ = λ y. names_for (places config events) y + one_if (same_id o y) in
    let calls : ObjId → ℕ = running_calls (places config events) in
    subst H (sym (places-push config events e)) (
    ap (with_pin_removed (stands_for (places config events) n)) (rows-pinned calls calls (names_for (places config events)) more o (λ y. refl) (λ y. refl) objects)
    ∙ rows-unpinned calls (running_calls (place_of config (places config events) e ∷ places config events)) more (names_for (place_of config (places config events) e ∷ places config events)) (stands_for (places config events) n)
    (names-no-call config events e (ap is_name_change asked)) (λ y. names-step config events e (Rebind n o) asked eff y) objects)

pub unbind-unpins : UnbindUnpins
unbind-unpins config events e n objects asked eff =
    let H : History → Type 0 = λ h. with_pin_removed (stands_for (places config events) n) (rows_of (places config events) objects) ≡ rows_of h objects in
    subst H (sym (places-push config events e)) (rows-unpinned (running_calls (places config events)) (running_calls (place_of config (places config events) e ∷ places config events)) (names_for (places config events)) (names_for (place_of config (places config events) e ∷ places config events)) (stands_for (places config events) n)
    (names-no-call config events e (ap is_name_change asked)) step objects)
  where
    step : (y : ObjId) → names_for (place_of config (places config events) e ∷ places config events) y + one_if (is_object y (stands_for (places config events) n)) ≡ names_for (places config events) y
    step y = let all = names-step config events e (Unbind n) asked eff y in let zero_if = none-of in omega (arith, all, zero_if)
