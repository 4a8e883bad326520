-- What an export table keeps and adds is what a history keeps and exports, and what other events leave.
use Rattle.std.proofs.Common.{◌≡◌, ℕ, ◌+◌, List, [], ◌∷◌, length, refl, ap, sym, subst, ◌∙◌, cond, map, max, arith}
use Rattle.std.specs.Prelude.{Bool, true, false, ◌&&◌, ◌||◌, filter, nat_lt, if◌then◌else◌}
use Rattle.std.specs.List.{list_any, AllByRecursion}
use Rattle.sequence.proofs.Lists.{none-either}
use Rattle.object_ids.specs.declared.ids.Uid.{Uid}
use Rattle.object_ids.specs.declared.ids.ObjId.{ObjId}
use Rattle.object_ids.specs.Same.{same_id}
use Rattle.history.specs.declared.asks.SpaceConfig.{SpaceConfig}
use Rattle.history.specs.declared.asks.Event.{Event}
use Rattle.history.specs.declared.asks.Ask.{Ask}
use Rattle.history.specs.declared.asks.Ask.TheVariants.{Open, Begin, Finish, Abandon, Dirty, Clean, Ack, Bind, Rebind, Unbind, Lookup, List as ListNames, Tick}
use Rattle.history.specs.declared.places.Exported.{Exported}
use Rattle.history.specs.declared.places.Returned.{Returned}
use Rattle.history.specs.Awaiting.{is_ack_of, is_awaited as awaited_in}
use Rattle.history.specs.LeaseCalls.{lease_calls}
use Rattle.history.specs.Leases.{is_held}
use Rattle.history.specs.Names.{is_name_of, is_named, names, names_of}
use Rattle.history.specs.Places.{History, now, exported_count, id_at, exported_from}
use Rattle.history.specs.Running.{begins_any, ends_any, running_calls_by, running_calls, is_running}
use Rattle.history.specs.Table.{is_kept_locally, is_kept, is_effective, exports, place_of, places}
use Rattle.history.proofs.AwaitingLaws.{is_awaited-members}
use Rattle.history.proofs.ListLemmas.{list_any-length}
use Rattle.history.proofs.NameCounts.{names-still}
use Rattle.history.proofs.NumberLaws.{length-exported_from, next-push}
use Rattle.history.proofs.Partitions.{one_if}
use Rattle.history.proofs.RunningLaws.{running_calls-push, is_running-calls}
use Rattle.history.proofs.TableLaws.{ask-place_of, places-push}
use Rattle.export_table.specs.declared.waits.Wait.{Wait}
use Rattle.export_table.specs.ExportRows.{new_row}
use Rattle.export_table.specs.StandsForHistory.{rows_of, reference_of, end_of, AreWaits, kinds_exported, is_exported_pinned, added_rows, OthersLeaveWaits, OthersLeaveRows, ExportsAreAdded, ExportsAreCounted, RowsAreKept}
use Rattle.export_table.specs.Waits.{is_awaited}
use Rattle.export_table.proofs.StandLaws.{names_for, row_with, row-same}
use Rattle.export_table.proofs.ThereLaws.{new-runs-none, new-unnamed}
use Rattle.export_table.proofs.WaitLaws.{waiting_refs, refs-await}
use Rattle.export_table.proofs.WaitSteps.{listed_all, waits-push}

-- ---- what other events leave

pub others-leave-waits : OthersLeaveWaits
others-leave-waits config events e waits silent acks s =
    let pushed = waits-push reference_of end_of (λ x n. record { object = x.object; uid = x.uid; until = n }) config events e waits (λ x n. refl) (λ x n. refl)
    (λ u. ap (is_ack_of u) (ask-place_of config (places config events) e) ∙ acks u) s in
    let R : List Returned → Type 0 = λ rs. AreWaits config.ack_ms (max e.moment (now (places config events))) (place_of config (places config events) e ∷ places config events)
    (listed_all reference_of end_of (λ x n. record { object = x.object; uid = x.uid; until = n }) config.ack_ms (max e.moment (now (places config events))) rs waits) in
    let H : History → Type 0 = λ h. AreWaits config.ack_ms (max e.moment (now (places config events))) h waits in
    subst H (sym (places-push config events e)) (subst R silent pushed)

pub others-leave-rows : OthersLeaveRows
unfolding one_if
others-leave-rows config events e objects begins ends still =
    let H : History → Type 0 = λ h. rows_of (places config events) objects ≡ rows_of h objects in
    subst H (sym (places-push config events e)) (row-same (running_calls (places config events)) (running_calls (place_of config (places config events) e ∷ places config events)) (names_for (places config events)) (names_for (place_of config (places config events) e ∷ places config events)) step (names-still config events e still) objects)
  where
    step : (o : ObjId) → running_calls (place_of config (places config events) e ∷ places config events) o ≡ running_calls (places config events) o
    step o =
        let push = running_calls-push config events e o in
        let begun : one_if (begins_any o (place_of config (places config events) e)) ≡ 0 = ap one_if (begins o) in
        let ended : one_if (ends_any o (place_of config (places config events) e)) ≡ 0 = ap one_if (ends o) in
        omega (arith, push, begun, ended)

-- ---- what is added

-- What an event exports are objects of the kinds that its ask exports.
exports-are : (config : SpaceConfig) (h : History) (e : Event) →
    (place_of config h e).exported_here ≡ exported_from config.uid (exported_count h) (is_exported_pinned e.ask) (kinds_exported (is_effective config h e.by e.ask) e.ask)
unfolding place_of is_effective exports
exports-are config h e = go e.ask
  where
    made_by : (b : Bool) (made : List ℕ) → ◌≡◌ {A = List Exported} (if b then exported_from config.uid (exported_count h) false made else []) (exported_from config.uid (exported_count h) false (if b then made else []))
    made_by true made = refl
    made_by false made = refl

    go : (a : Ask) → (place_of config h (record e { ask = a })).exported_here ≡ exported_from config.uid (exported_count h) (is_exported_pinned a) (kinds_exported (is_effective config h e.by a) a)
    go (Open kind pinned) = refl
    go (Begin x) = none-either _
    go (Finish x made listed u) = made_by (nat_lt 0 (running_calls_by h e.by x)) made
    go (Abandon x) = none-either _
    go (Dirty x y z w) = refl
    go (Clean x y z w) = refl
    go (Ack u) = refl
    go (Bind x y) = none-either _
    go (Rebind x y) = none-either _
    go (Unbind x) = none-either _
    go (Lookup x y) = none-either _
    go ListNames = refl
    go Tick = refl

-- Objects of which no call runs, and for which no name stands, have the rows with which they are added.
pub added-rows : (space : Uid) (k : ℕ) (count pins : ObjId → ℕ) (pinned : Bool) (kinds : List ℕ) → AllByRecursion (λ (x : Exported). count x.id ≡ 0) (exported_from space k pinned kinds) →
    AllByRecursion (λ (x : Exported). pins x.id ≡ 0) (exported_from space k pinned kinds) →
    map (row_with count pins) (exported_from space k pinned kinds) ≡ added_rows space k pinned kinds
added-rows space k count pins pinned [] none free = refl
added-rows space k count pins pinned (kind ∷ kinds) none free =
    ap (λ (n : ℕ). record { id = id_at space k; kind = kind; pinned = pinned; running = n; pins = pins (id_at space k) } ∷ map (row_with count pins) (exported_from space (k + 1) pinned kinds)) none.0
    ∙ ap (λ (n : ℕ). record { id = id_at space k; kind = kind; pinned = pinned; running = 0; pins = n } ∷ map (row_with count pins) (exported_from space (k + 1) pinned kinds)) free.0
    ∙ ap (λ l. new_row (id_at space k) kind pinned ∷ l) (added-rows space (k + 1) count pins pinned kinds none.1 free.1)

pub exports-are-added : ExportsAreAdded
exports-are-added config events e =
    let kinds : List ℕ = kinds_exported (is_effective config (places config events) e.by e.ask) e.ask in
    let P : List Exported → Type 0 = λ l. AllByRecursion (λ (x : Exported). running_calls (place_of config (places config events) e ∷ places config events) x.id ≡ 0) l in
    let N : List Exported → Type 0 = λ l. AllByRecursion (λ (x : Exported). names_for (place_of config (places config events) e ∷ places config events) x.id ≡ 0) l in
    let H : History → Type 0 = λ h. rows_of h (place_of config (places config events) e).exported_here ≡ added_rows config.uid (exported_count (places config events)) (is_exported_pinned e.ask) kinds in
    subst H (sym (places-push config events e)) (
    ap (rows_of (place_of config (places config events) e ∷ places config events)) (exports-are config (places config events) e)
    ∙ added-rows config.uid (exported_count (places config events)) (running_calls (place_of config (places config events) e ∷ places config events)) (names_for (place_of config (places config events) e ∷ places config events)) (is_exported_pinned e.ask) kinds
    (subst P (exports-are config (places config events) e) (new-runs-none config events e)) (subst N (exports-are config (places config events) e) (new-unnamed config events e)))

pub exports-are-counted : ExportsAreCounted
exports-are-counted config events e =
    let kinds : List ℕ = kinds_exported (is_effective config (places config events) e.by e.ask) e.ask in
    ap exported_count (places-push config events e) ∙ next-push (place_of config (places config events) e) (places config events)
    ∙ ap (λ (n : ℕ). exported_count (places config events) + n) (
    ap length (exports-are config (places config events) e)
    ∙ length-exported_from config.uid (exported_count (places config events)) (is_exported_pinned e.ask) kinds)

-- ---- what is kept

-- An object is awaited exactly where a reference to it is among those of the waits.
pub refs-awaited : (t : ℕ) (o : ObjId) (ws : List Wait) → list_any (λ r. same_id r.object o) (waiting_refs reference_of end_of t ws) ≡ is_awaited t o ws
refs-awaited t o [] = refl
refs-awaited t o (w ∷ ws) = go (nat_lt t w.until) (refs-awaited t o ws)
  where
    go : (b : Bool) → list_any (λ r. same_id r.object o) (waiting_refs reference_of end_of t ws) ≡ is_awaited t o ws →
        list_any (λ r. same_id r.object o) (map reference_of (cond b (w ∷ filter (λ v. nat_lt t (end_of v)) ws) (filter (λ v. nat_lt t (end_of v)) ws))) ≡ ((b && same_id w.object o) || is_awaited t o ws)
    go true e = ap (λ v. same_id w.object o || v) e
    go false e = e

awaited-is : (ack t : ℕ) (h : History) (o : ObjId) (waits : List Wait) → AreWaits ack t h waits → is_awaited t o waits ≡ awaited_in ack t h o
awaited-is ack t h o waits s =
    sym (refs-awaited t o waits)
    ∙ sym (is_awaited-members ack t h o (waiting_refs reference_of end_of t waits) (refs-await reference_of end_of ack t t h waits (omega arith) s))

-- Some name stands for an object where more than none do.
pub named-counted : (h : History) (o : ObjId) → nat_lt 0 (length (names_of h o)) ≡ is_named h o
unfolding is_named names_of
named-counted h o = sym (list_any-length (is_name_of h o) (names h))

pub rows-are-kept : RowsAreKept
unfolding is_kept is_kept_locally
rows-are-kept config events waits x s =
    let h : History = places config events in
    let held : Bool = is_held config.lease_ms (now h) (lease_calls h) x.id in
    ap (λ v. (x.pinned || v || nat_lt 0 (running_calls h x.id)) || is_awaited (now h) x.id waits || held) (named-counted h x.id)
    ∙ ap (λ v. (x.pinned || is_named h x.id || v) || is_awaited (now h) x.id waits || held) (sym (is_running-calls h x.id))
    ∙ ap (λ v. (x.pinned || is_named h x.id || is_running h x.id) || v || held) (awaited-is config.ack_ms (now h) h x.id waits s)
