-- When the references that an event returns pass the limit of those that await.
use Rattle.std.proofs.Common.{◌≡◌, ℕ, ◌+◌, ◌≤◌, List, [], ◌∷◌, ◌++◌, length, refl, ap, sym, subst, ◌∙◌, max, arith, suc, Option, Some, None}
use Rattle.std.specs.Prelude.{Bool, true, false, filter, flat_map, option_to_list, nat_lt, if◌then◌else◌}
use Rattle.std.specs.List.{list_any}
use Rattle.std.proofs.lemmas.Bool.{le-ltb, ltb-false}
use Rattle.object_ids.specs.declared.ids.Uid.{Uid}
use Rattle.object_ids.specs.declared.ids.ObjId.{ObjId}
use Rattle.object_ids.specs.declared.ids.FullKind.TheVariants.{Awaiting}
use Rattle.object_ids.specs.Same.{same_id}
use Rattle.history.specs.declared.asks.SpaceConfig.{SpaceConfig}
use Rattle.history.specs.declared.asks.Event.{Event}
use Rattle.history.specs.declared.asks.Ask.{Ask}
use Rattle.history.specs.declared.asks.Ask.TheVariants.{Open, Begin, Finish, Abandon, Dirty, Clean, Ack, Bind, Rebind, Unbind, Lookup, List as ListNames, Tick}
use Rattle.history.specs.declared.limits.TheConstants.{MAX_AWAITING}
use Rattle.history.specs.declared.places.Exported.{Exported}
use Rattle.history.specs.declared.replies.Refused.TheVariants.{Full}
use Rattle.history.specs.Awaiting.{same_returned, returned_references, return_uid, awaiting_references}
use Rattle.history.specs.Limits.{awaiting_with_event}
use Rattle.history.specs.Lists.{distinct, AllOnce}
use Rattle.history.specs.Places.{has, now, exported_from, exported_count}
use Rattle.history.specs.Table.{is_effective, table, place_of, places}
use Rattle.history.proofs.NumberLaws.{exported_from-numbered, NumberedFrom-apart}
use Rattle.history.proofs.TableLaws.{moment-place_of}
use Rattle.export_table.specs.declared.rows.Export.{Export}
use Rattle.export_table.specs.declared.waits.Wait.{Wait}
use Rattle.export_table.specs.ExportRows.{is_exported}
use Rattle.space.specs.Acts.{new_ids, returned_by, awaiting_with, awaiting_after, return_refusal, await_refusal}
use Rattle.space.specs.Kept.{IsWithin}
use Rattle.export_table.specs.StandsForHistory.{WaitsStand, waits_once, reference_of, end_of, references, rows_of}
use Rattle.space.proofs.Acting.{new-ids, live-same, returned-is, returned-with, stood_for}
use Rattle.space.proofs.Named.{any-ids}
use Rattle.export_table.proofs.ThereLaws.{new-not-old, not-exported-nowhere}
use Rattle.space.proofs.NextLaws.{not-there-awaits}
use Rattle.space.proofs.ObjectLaws.{awaits-earlier, filter-there}
use Rattle.space.proofs.Quiet.{opened_by, adds-are}
use Rattle.space.proofs.ReferenceLaws.{awaiting-counted-with}
use Rattle.space.proofs.Room.{awaiting-few}
use Rattle.space.proofs.RowLaws.{apart-once}
use Rattle.export_table.proofs.WaitLaws.{count-awaiting-with, waiting_refs, waits-await, refs-await}

pub new-length : (space : Uid) (k : ℕ) (kinds : List ℕ) → length (new_ids space k kinds) ≡ length kinds
new-length space k [] = refl
new-length space k (kind ∷ kinds) = ap suc (new-length space (k + 1) kinds)

new-once : (space : Uid) (k : ℕ) (kinds : List ℕ) → AllOnce same_id (new_ids space k kinds)
new-once space k kinds =
    let P : List ObjId → Type 0 = λ l. AllOnce same_id l in
    subst P (new-ids space k false kinds) (apart-once (exported_from space k false kinds) (NumberedFrom-apart space k (exported_from space k false kinds) (exported_from-numbered space k false kinds)))

-- A return whose call runs, after events.
pub record IsReturn (config : SpaceConfig) (events : List Event) (e : Event) (rows : List Export) (waits : List Wait) (x : ObjId) (made : List ℕ) (listed : List ObjId) (u : Uid) : Type 0 where
  pub asked : e.ask ≡ Finish x made listed u
  pub effective : is_effective config (places config events) e.by e.ask ≡ true
  pub rows_are : rows ≡ rows_of (places config events) (table config (places config events))
  pub waits_stand : WaitsStand reference_of end_of config.ack_ms (now (places config events)) (places config events) waits

-- Its new objects were nowhere before.
new-absent : (config : SpaceConfig) (events : List Event) (e : Event) (rows : List Export) (waits : List Wait) (x : ObjId) (made : List ℕ) (listed : List ObjId) (u : Uid) → IsReturn config events e rows waits x made listed u →
    (o : ObjId) → list_any (same_id o) (new_ids config.uid (exported_count (places config events)) made) ≡ true → has (table config (places config events)) o ≡ false
new-absent config events e rows waits x made listed u r o h =
    not-exported-nowhere config events o (new-not-old config events e o (
    ap (λ l. has l o) (adds-are config (places config events) e
    ∙ ap (λ v. opened v e.ask) r.effective ∙ ap (opened true) r.asked)
    ∙ sym (any-ids (exported_from config.uid (exported_count (places config events)) false made) o)
    ∙ ap (list_any (same_id o)) (new-ids config.uid (exported_count (places config events)) false made) ∙ h))
  where
    opened : Bool → Ask → List Exported
    opened v a = opened_by config (exported_count (places config events)) v a

absent : (b : Bool) → (b ≡ true → ⊥) → b ≡ false
absent true n = absurd (n refl)
absent false n = refl

-- HOW MANY AWAIT once it has returned.
pub return-counted : (config : SpaceConfig) (events : List Event) (e : Event) (rows : List Export) (waits : List Wait) (x : ObjId) (made : List ℕ) (listed : List ObjId) (u : Uid) → IsReturn config events e rows waits x made listed u →
    awaiting_with (max e.moment (now (places config events))) u (new_ids config.uid (exported_count (places config events)) made ++ filter (is_exported rows) listed) waits
    ≡ awaiting_after (max e.moment (now (places config events))) u (length made) (filter (is_exported rows) listed) waits
return-counted config events e rows waits x made listed u r =
    awaiting-counted-with (max e.moment (now (places config events))) u (new_ids config.uid (exported_count (places config events)) made) (filter (is_exported rows) listed) waits r.waits_stand.once
    (new-once config.uid (exported_count (places config events)) made)
    (λ o h. waits-await reference_of end_of config.ack_ms (now (places config events)) (max e.moment (now (places config events))) (places config events) waits (omega arith) r.waits_stand (record { object = o; uid = u })
    ∙ absent _ (λ t. (let never = not-there-awaits config events (record { object = o; uid = u }) (new-absent config events e rows waits x made listed u r o h) in
    let before = awaits-earlier config.ack_ms (now (places config events)) (max e.moment (now (places config events))) (places config events) (record { object = o; uid = u }) (omega arith) t in cc)))
    (λ o h. absent _ (λ t. (let never = new-absent config events e rows waits x made listed u r o h in
    let there = filter-there (table config (places config events)) o listed (ap (list_any (same_id o)) (live-same (places config events) (table config (places config events)) rows r.rows_are listed) ∙ t) in cc)))
    ∙ ap (λ n. awaiting_after (max e.moment (now (places config events))) u n (filter (is_exported rows) listed) waits) (new-length config.uid (exported_count (places config events)) made)

-- The same as the history counts them.
event-counted : (config : SpaceConfig) (events : List Event) (e : Event) (rows : List Export) (waits : List Wait) (x : ObjId) (made : List ℕ) (listed : List ObjId) (u : Uid) → IsReturn config events e rows waits x made listed u →
    awaiting_with_event config (places config events) e ≡ awaiting_after (max e.moment (now (places config events))) u (length made) (filter (is_exported rows) listed) waits
unfolding awaiting_with_event
event-counted config events e rows waits x made listed u r =
    ap (λ n. length (distinct same_returned (awaiting_references config.ack_ms n (places config events) ++ returned_references (place_of config (places config events) e)))) (moment-place_of config (places config events) e)
    ∙ count-awaiting-with config.ack_ms (max e.moment (now (places config events))) (places config events) (waiting_refs reference_of end_of (max e.moment (now (places config events))) waits) (returned_references (place_of config (places config events) e))
    (refs-await reference_of end_of config.ack_ms (now (places config events)) (max e.moment (now (places config events))) (places config events) waits (omega arith) r.waits_stand)
    ∙ ap (λ l. length (distinct same_returned (waiting_refs reference_of end_of (max e.moment (now (places config events))) waits ++ l)))
    (returned-with config (places config events) e rows u (ap return_uid r.asked) r.rows_are
    ∙ ap (λ v. references u (returned_by config.uid (exported_count (places config events)) rows (stood_for (places config events) e.ask) v e.ask)) r.effective
    ∙ ap (λ a. references u (returned_by config.uid (exported_count (places config events)) rows (stood_for (places config events) e.ask) true a)) r.asked)
    ∙ return-counted config events e rows waits x made listed u r

-- A lookup, after events.
pub record IsLookup (config : SpaceConfig) (events : List Event) (e : Event) (rows : List Export) (waits : List Wait) (n : List ℕ) (u : Uid) : Type 0 where
  pub asked : e.ask ≡ Lookup n u
  pub rows_are : rows ≡ rows_of (places config events) (table config (places config events))
  pub waits_stand : WaitsStand reference_of end_of config.ack_ms (now (places config events)) (places config events) waits

-- How many await once an object is returned, or none is.
pub lookup-counted : (t : ℕ) (u : Uid) (stood : Option ObjId) (waits : List Wait) → waits_once reference_of waits →
    awaiting_with t u (option_to_list stood) waits ≡ awaiting_after t u 0 (option_to_list stood) waits
lookup-counted t u stood waits once = awaiting-counted-with t u [] (option_to_list stood) waits once tt (λ o h. absurd (cc)) (λ o h. absurd (cc))

-- The same as the history counts them.
looked-counted : (config : SpaceConfig) (events : List Event) (e : Event) (rows : List Export) (waits : List Wait) (n : List ℕ) (u : Uid) → IsLookup config events e rows waits n u →
    awaiting_with_event config (places config events) e ≡ awaiting_after (max e.moment (now (places config events))) u 0 (option_to_list (stood_for (places config events) e.ask)) waits
unfolding awaiting_with_event
looked-counted config events e rows waits n u r =
    ap (λ m. length (distinct same_returned (awaiting_references config.ack_ms m (places config events) ++ returned_references (place_of config (places config events) e)))) (moment-place_of config (places config events) e)
    ∙ count-awaiting-with config.ack_ms (max e.moment (now (places config events))) (places config events) (waiting_refs reference_of end_of (max e.moment (now (places config events))) waits) (returned_references (place_of config (places config events) e))
    (refs-await reference_of end_of config.ack_ms (now (places config events)) (max e.moment (now (places config events))) (places config events) waits (omega arith) r.waits_stand)
    ∙ ap (λ l. length (distinct same_returned (waiting_refs reference_of end_of (max e.moment (now (places config events))) waits ++ l)))
    (returned-with config (places config events) e rows u (ap return_uid r.asked) r.rows_are
    ∙ ap (λ a. references u (returned_by config.uid (exported_count (places config events)) rows (stood_for (places config events) e.ask) (is_effective config (places config events) e.by e.ask) a)) r.asked)
    ∙ lookup-counted (max e.moment (now (places config events))) u (stood_for (places config events) e.ask) waits r.waits_stand.once

-- THE REFUSAL for want of room among those that await.
pub await-is : (config : SpaceConfig) (events : List Event) (e : Event) (rows : List Export) (waits : List Wait) → IsWithin config (places config events) →
    rows ≡ rows_of (places config events) (table config (places config events)) → WaitsStand reference_of end_of config.ack_ms (now (places config events)) (places config events) waits →
    (if nat_lt MAX_AWAITING (awaiting_with_event config (places config events) e) then Some (Full Awaiting) else None)
    ≡ await_refusal (max e.moment (now (places config events))) rows waits (stood_for (places config events) e.ask) (is_effective config (places config events) e.by e.ask) e.ask
await-is config events e rows waits w rs s = go e.ask refl (is_effective config (places config events) e.by e.ask) refl
  where
    few : returned_references (place_of config (places config events) e) ≡ [] → (if nat_lt MAX_AWAITING (awaiting_with_event config (places config events) e) then Some (Full Awaiting) else None) ≡ None
    few n = ap (λ v. if v then Some (Full Awaiting) else None) (le-ltb MAX_AWAITING (awaiting_with_event config (places config events) e) (awaiting-few config (places config events) e n w))

    silent : return_uid e.ask ≡ None → returned_references (place_of config (places config events) e) ≡ []
    silent n =
        returned-is config (places config events) e rows rs
        ∙ ap (λ u. flat_map (λ v. references v (returned_by config.uid (exported_count (places config events)) rows (stood_for (places config events) e.ask) (is_effective config (places config events) e.by e.ask) e.ask)) (option_to_list u)) n

    go : (a : Ask) → e.ask ≡ a → (v : Bool) → is_effective config (places config events) e.by e.ask ≡ v →
        (if nat_lt MAX_AWAITING (awaiting_with_event config (places config events) e) then Some (Full Awaiting) else None) ≡ await_refusal (max e.moment (now (places config events))) rows waits (stood_for (places config events) e.ask) v a
    go (Finish x made listed u) i true f =
        ap (λ n. if nat_lt MAX_AWAITING n then Some (Full Awaiting) else None)
        (event-counted config events e rows waits x made listed u (record { asked = i; effective = f; rows_are = rs; waits_stand = s }))
    go (Finish x made listed u) i false f =
        few (returned-with config (places config events) e rows u (ap return_uid i) rs
        ∙ ap (λ v. references u (returned_by config.uid (exported_count (places config events)) rows (stood_for (places config events) e.ask) v e.ask)) f
        ∙ ap (λ a. references u (returned_by config.uid (exported_count (places config events)) rows (stood_for (places config events) e.ask) false a)) i)
    go (Lookup n u) i v f =
        ap (λ m. if nat_lt MAX_AWAITING m then Some (Full Awaiting) else None)
        (looked-counted config events e rows waits n u (record { asked = i; rows_are = rs; waits_stand = s }))
    go (Open kind pinned) i v f = few (silent (ap return_uid i))
    go (Begin x) i v f = few (silent (ap return_uid i))
    go (Abandon x) i v f = few (silent (ap return_uid i))
    go (Dirty x y z k) i v f = few (silent (ap return_uid i))
    go (Clean x y z k) i v f = few (silent (ap return_uid i))
    go (Ack u) i v f = few (silent (ap return_uid i))
    go Tick i v f = few (silent (ap return_uid i))
    go (Bind x y) i v f = few (silent (ap return_uid i))
    go (Rebind x y) i v f = few (silent (ap return_uid i))
    go (Unbind x) i v f = few (silent (ap return_uid i))
    go ListNames i v f = few (silent (ap return_uid i))

-- Where it is not refused, there is room for its references.
pub return-few : (config : SpaceConfig) (events : List Event) (e : Event) (rows : List Export) (waits : List Wait) (x : ObjId) (made : List ℕ) (listed : List ObjId) (u : Uid) → IsReturn config events e rows waits x made listed u →
    return_refusal (max e.moment (now (places config events))) u (length made) (filter (is_exported rows) listed) waits ≡ None →
    awaiting_with (max e.moment (now (places config events))) u (new_ids config.uid (exported_count (places config events)) made ++ filter (is_exported rows) listed) waits ≤ MAX_AWAITING
return-few config events e rows waits x made listed u r n =
    let same = return-counted config events e rows waits x made listed u r in
    let few = ltb-false MAX_AWAITING (awaiting_after (max e.moment (now (places config events))) u (length made) (filter (is_exported rows) listed) waits)
    (unfull (nat_lt MAX_AWAITING (awaiting_after (max e.moment (now (places config events))) u (length made) (filter (is_exported rows) listed) waits)) n) in
    omega (arith, same, few)
  where
    unfull : (b : Bool) → (if b then Some (Full Awaiting) else None) ≡ None → b ≡ false
    unfull true h = absurd (cc)
    unfull false h = refl

pub lookup-few : (t : ℕ) (u : Uid) (stood : Option ObjId) (waits : List Wait) → waits_once reference_of waits → return_refusal t u 0 (option_to_list stood) waits ≡ None →
    awaiting_with t u (option_to_list stood) waits ≤ MAX_AWAITING
lookup-few t u stood waits once n =
    let same = lookup-counted t u stood waits once in
    let few = ltb-false MAX_AWAITING (awaiting_after t u 0 (option_to_list stood) waits) (unfull (nat_lt MAX_AWAITING (awaiting_after t u 0 (option_to_list stood) waits)) n) in
    omega (arith, same, few)
  where
    unfull : (b : Bool) → (if b then Some (Full Awaiting) else None) ≡ None → b ≡ false
    unfull true h = absurd (cc)
    unfull false h = refl
