-- What is kept after one more event, and what a turn answers.
use Rattle.std.proofs.Common.{◌≡◌, ℕ, suc, ◌+◌, ◌<◌, ◌≤◌, inl, inr, List, [], ◌∷◌, ◌++◌, length, refl, ap, sym, subst, ◌∙◌, cond, map, arith, max, drop, Some, None, Ok, Err, length-append}
use Rattle.std.specs.Prelude.{Bool, true, false, not, ◌&&◌, ◌||◌, filter, find, nat_lt, if◌then◌else◌, Option, is_none, is_some, option_map, unwrap_or}
use Rattle.std.specs.List.{list_any, AllByRecursion}
use Rattle.std.proofs.lemmas.List.{map-append, drop-append-le, drop_all}
use Rattle.object_ids.specs.declared.ids.ObjId.{ObjId}
use Rattle.object_ids.specs.Same.{same_id}
use Rattle.history.specs.declared.asks.SpaceConfig.{SpaceConfig}
use Rattle.history.specs.declared.asks.Event.{Event}
use Rattle.history.specs.declared.asks.Ask.{Ask}
use Rattle.history.specs.declared.asks.Ask.TheVariants.{Open, Begin, Finish, Abandon, Dirty, Clean, Ack, Bind, Rebind, Unbind, Lookup, List as ListNames, Tick}
use Rattle.history.specs.declared.calls.Call.{Call}
use Rattle.history.specs.declared.places.Exported.{Exported}
use Rattle.history.specs.declared.places.Withdrawal.{Withdrawal}
use Rattle.history.specs.declared.replies.Refused.{Refused}
use Rattle.history.specs.declared.replies.Reply.{Reply}
use Rattle.history.specs.declared.replies.Reply.TheVariants.{Started, NoObject, Finished, NotRunning, Bound, AlreadyBound, Found}
use Rattle.history.specs.declared.replies.Turn.{Turn}
use Rattle.history.specs.LeaseCalls.{call_with, lease_calls}
use Rattle.history.specs.Leases.{is_held}
use Rattle.history.specs.Limits.{units_of, limits, refusal}
use Rattle.history.specs.Places.{History, has, now, exported_from, exported_count}
use Rattle.history.specs.Names.{names, stands_for}
use Rattle.history.specs.Replies.{reply, reply_found, gone_objects, ids, is_abandon}
use Rattle.history.specs.Steps.{turn_of, answer_with, history_with, Step}
use Rattle.history.specs.Table.{is_effective, exports, is_kept, table, place_of, places, withdrawn_objects, withdrawals}
use Rattle.history.proofs.GoneLaws.{unreported_objects, unreported_objects-push, withdrawals-push}
use Rattle.history.proofs.ListLemmas.{every-weaker}
use Rattle.history.proofs.StepLaws.{IsLegal-step}
use Rattle.history.proofs.TableLaws.{places-push, length-places, now-push, table-place, units-push, ask-place_of, index-place_of}
use Rattle.dgc_server.specs.Counts.{without_all}
use Rattle.dgc_server.specs.StandsForCalls.{LeaseTable, StandsFor}
use Rattle.export_table.specs.declared.rows.Export.{Export}
use Rattle.export_table.specs.ExportRows.{is_row_kept as row_kept, held_by, withdrawn_ids as rows_withdrawn, is_exported}
use Rattle.export_table.specs.Table.{ExportTable}
use Rattle.export_table.specs.Waits.{still_waiting}
use Rattle.space.specs.declared.runs.Run.{Run}
use Rattle.space.specs.Acts.{opens, new_ids, reply_at, started_reply, found_reply, withdrawal_at, reported_after, room_refusal, await_refusal, lease_refusal, name_refusal, first_of_two, Agrees}
use Rattle.space.specs.Kept.{live_calls, Stands, Keeps}
use Rattle.space.specs.Runs.{RunsStand, caller_of, object_of}
use Rattle.export_table.specs.StandsForHistory.{WaitsStand, reference_of, end_of, row_of, rows_of}
use Rattle.space.proofs.Acting.{new-ids, stood_for}
use Rattle.space.proofs.AwaitLaws.{await-is}
use Rattle.space.proofs.LimitLaws.{within-next}
use Rattle.space.proofs.LiveLaws.{gone_of}
use Rattle.space.proofs.NextLaws.{live-next, kept-next, gone-next, withdrawn-ids}
use Rattle.space.proofs.Quiet.{adds-length}
use Rattle.space.proofs.Room.{refusal-is, names-refused}
use Rattle.export_table.proofs.KeptLaws.{named-counted, refs-awaited}
use Rattle.export_table.proofs.WaitLaws.{refs-await, waiting_refs}
use Rattle.export_table.proofs.StandLaws.{names_for, waits-going, kind-is, exported-has}
use Rattle.history.specs.Awaiting.{awaits}
use Rattle.history.specs.Running.{running_calls_by, running_calls}
use Rattle.history.specs.declared.limits.TheConstants.{END_OF_TIME}
use Rattle.history.proofs.NumberLaws.{next-push}
use Rattle.export_table.proofs.WaitLaws.{numbered-place}

-- ---- lists

filter-rows : (h : History) (p : Export → Bool) (q : Exported → Bool) (xs : List Exported) → AllByRecursion (λ x. p (row_of h x) ≡ q x) xs → filter p (rows_of h xs) ≡ rows_of h (filter q xs)
filter-rows h p q [] e = refl
filter-rows h p q (x ∷ xs) e = go (p (row_of h x)) (q x) e.0 (filter-rows h p q xs e.1)
  where
    go : (a b : Bool) → a ≡ b → filter p (rows_of h xs) ≡ rows_of h (filter q xs) → cond a (row_of h x ∷ filter p (rows_of h xs)) (filter p (rows_of h xs)) ≡ rows_of h (cond b (x ∷ filter q xs) (filter q xs))
    go true true e r = ap (λ l. row_of h x ∷ l) r
    go false false e r = r
    go true false e r = absurd (cc)
    go false true e r = absurd (cc)

gone-rows : (h : History) (p : Export → Bool) (q : Exported → Bool) (xs : List Exported) → AllByRecursion (λ x. p (row_of h x) ≡ q x) xs →
    map (λ (r : Export). r.id) (filter (λ r. not (p r)) (rows_of h xs)) ≡ ids (filter (λ x. not (q x)) xs)
gone-rows h p q [] e = refl
gone-rows h p q (x ∷ xs) e = go (p (row_of h x)) (q x) e.0 (gone-rows h p q xs e.1)
  where
    go : (a b : Bool) → a ≡ b → map (λ (r : Export). r.id) (filter (λ r. not (p r)) (rows_of h xs)) ≡ ids (filter (λ y. not (q y)) xs) →
        map (λ (r : Export). r.id) (cond (not a) (row_of h x ∷ filter (λ r. not (p r)) (rows_of h xs)) (filter (λ r. not (p r)) (rows_of h xs))) ≡ ids (cond (not b) (x ∷ filter (λ y. not (q y)) xs) (filter (λ y. not (q y)) xs))
    go true true e r = r
    go false false e r = ap (λ l. x.id ∷ l) r
    go true false e r = absurd (cc)
    go false true e r = absurd (cc)

objects-reported : (n : ℕ) (os : List ObjId) → map (λ (w : Withdrawal). w.object) (map (withdrawal_at n) os) ≡ os
objects-reported n [] = refl
objects-reported n (o ∷ os) = ap (λ l. o ∷ l) (objects-reported n os)

at-place : (n : ℕ) (xs : List Exported) → map (withdrawal_at n) (ids xs) ≡ map (λ (x : Exported). record { object = x.id; place = n }) xs
at-place n [] = refl
at-place n (x ∷ xs) = ap (λ l. withdrawal_at n x.id ∷ l) (at-place n xs)

-- The waits that go on.
-- ---- after the act, and before anything is withdrawn

pub record IsActed (config : SpaceConfig) (events : List Event) (e : Event) (leases : LeaseTable) (exports : ExportTable) (runs : List Run) : Type 0 where
  pub leases_stand : StandsFor config.lease_ms leases (max e.moment (now (places config events))) (call_with (has (table config (places config events))) (max e.moment (now (places config events))) e.ask ++ live_calls (table config (places config events)) (lease_calls (places config events)))
  pub rows_are : exports.rows ≡ rows_of (place_of config (places config events) e ∷ places config events) (table config (places config events) ++ (place_of config (places config events) e).exported_here)
  pub waits_stand : WaitsStand reference_of end_of config.ack_ms (max e.moment (now (places config events))) (place_of config (places config events) e ∷ places config events) exports.waits
  pub runs_stand : RunsStand caller_of object_of (place_of config (places config events) e ∷ places config events) runs

-- What the lease table was told.
abbrev pub told_calls : SpaceConfig → List Event → Event → List Call
told_calls config events e = call_with (has (table config (places config events))) (max e.moment (now (places config events))) e.ask ++ live_calls (table config (places config events)) (lease_calls (places config events))

-- What the table keeps of its rows is what is kept.
rows-kept : (config : SpaceConfig) (events : List Event) (e : Event) (leases : LeaseTable) (exports : ExportTable) (runs : List Run) → IsActed config events e leases exports runs →
    AllByRecursion (λ x. row_kept (max e.moment (now (places config events))) (held_by config.lease_ms (max e.moment (now (places config events))) (told_calls config events e)) exports.waits (row_of (place_of config (places config events) e ∷ places config events) x)
    ≡ is_kept config (place_of config (places config events) e ∷ places config events) x)
    (table config (places config events) ++ (place_of config (places config events) e).exported_here)
rows-kept config events e leases exports runs a =
    let time : now (place_of config (places config events) e ∷ places config events) ≡ max e.moment (now (places config events)) = now-push config (places config events) e in
    every-weaker _ _ (λ x k. sym (
    k
    ∙ ap (λ v. (x.pinned || v || nat_lt 0 (running_calls (place_of config (places config events) e ∷ places config events) x.id))
    || list_any (λ r. same_id r.object x.id) (waiting_refs reference_of end_of (max e.moment (now (places config events))) exports.waits)
    || is_held config.lease_ms (max e.moment (now (places config events))) (told_calls config events e) x.id)
    (sym (named-counted (place_of config (places config events) e ∷ places config events) x.id))
    ∙ ap (λ v. (x.pinned || nat_lt 0 (names_for (place_of config (places config events) e ∷ places config events) x.id) || nat_lt 0 (running_calls (place_of config (places config events) e ∷ places config events) x.id)) || v
    || is_held config.lease_ms (max e.moment (now (places config events))) (told_calls config events e) x.id)
    (refs-awaited (max e.moment (now (places config events))) x.id exports.waits)))
    (table config (places config events) ++ (place_of config (places config events) e).exported_here)
    (kept-next config events e (waiting_refs reference_of end_of (max e.moment (now (places config events))) exports.waits)
    (λ r. refs-await reference_of end_of config.ack_ms (max e.moment (now (places config events))) (max e.moment (now (places config events))) (place_of config (places config events) e ∷ places config events) exports.waits (omega arith) a.waits_stand r
    ∙ ap (λ n. awaits config.ack_ms n (place_of config (places config events) e ∷ places config events) r) (sym time)))

-- What goes, by the table's rows.
abbrev pub going_now : SpaceConfig → List Event → Event → ExportTable → List ObjId
going_now config events e exports =
    rows_withdrawn (max e.moment (now (places config events))) (held_by config.lease_ms (max e.moment (now (places config events))) (told_calls config events e)) exports.waits exports.rows

pub going-is : (config : SpaceConfig) (events : List Event) (e : Event) (leases : LeaseTable) (exports : ExportTable) (runs : List Run) → IsActed config events e leases exports runs →
    going_now config events e exports ≡ gone_of (table config (places config events) ++ (place_of config (places config events) e).exported_here) (is_kept config (place_of config (places config events) e ∷ places config events))
going-is config events e leases exports runs a =
    ap (rows_withdrawn (max e.moment (now (places config events))) (held_by config.lease_ms (max e.moment (now (places config events))) (told_calls config events e)) exports.waits) a.rows_are
    ∙ gone-rows (place_of config (places config events) e ∷ places config events) (row_kept (max e.moment (now (places config events))) (held_by config.lease_ms (max e.moment (now (places config events))) (told_calls config events e)) exports.waits)
    (is_kept config (place_of config (places config events) e ∷ places config events)) (table config (places config events) ++ (place_of config (places config events) e).exported_here) (rows-kept config events e leases exports runs a)

-- ---- after the withdrawal

some-units : (a : Ask) → 1 ≤ units_of a
some-units (Finish object made listed uid) = omega arith
some-units (Dirty client number asked objects) = omega arith
some-units (Clean client number objects strong) = omega arith
some-units _ = omega arith

pub opened-few : (effective : Bool) (a : Ask) → opens effective a ≤ units_of a
opened-few effective (Open kind pinned) = omega arith
opened-few true (Finish object made listed uid) = omega arith
opened-few false (Finish object made listed uid) = omega arith
opened-few effective (Dirty client number asked objects) = omega arith
opened-few effective (Clean client number objects strong) = omega arith
opened-few effective _ = omega arith

withdrawn-next : (config : SpaceConfig) (events : List Event) (e : Event) →
    withdrawals config (place_of config (places config events) e ∷ places config events)
    ≡ withdrawals config (places config events) ++ map (withdrawal_at (length events)) (gone_of (table config (places config events) ++ (place_of config (places config events) e).exported_here) (is_kept config (place_of config (places config events) e ∷ places config events)))
withdrawn-next config events e =
    withdrawals-push config (place_of config (places config events) e) (places config events)
    ∙ ap (λ l. withdrawals config (places config events) ++ l) (
    ap (λ (n : ℕ). map (λ (x : Exported). record { object = x.id; place = n }) (withdrawn_objects config (place_of config (places config events) e ∷ places config events))) (index-place_of config (places config events) e ∙ length-places config events)
    ∙ sym (at-place (length events) (withdrawn_objects config (place_of config (places config events) e ∷ places config events)))
    ∙ ap (map (withdrawal_at (length events))) (withdrawn-ids config events e))

-- WHAT A TURN TELLS as gone.
pub gone-kept : (config : SpaceConfig) (events : List Event) (e : Event) (withdrawn : List Withdrawal) (reported : ℕ) (os : List ObjId) → reported ≤ length withdrawn → map (λ (w : Withdrawal). w.object) (drop reported withdrawn) ≡ unreported_objects config (places config events) →
    os ≡ gone_of (table config (places config events) ++ (place_of config (places config events) e).exported_here) (is_kept config (place_of config (places config events) e ∷ places config events)) →
    map (λ (w : Withdrawal). w.object) (drop reported (withdrawn ++ map (withdrawal_at (length events)) os)) ≡ gone_objects config (places config events) e
gone-kept config events e withdrawn reported os le t o =
    ap (map (λ (w : Withdrawal). w.object)) (drop-append-le reported withdrawn (map (withdrawal_at (length events)) os) le)
    ∙ map-append (λ (w : Withdrawal). w.object) (drop reported withdrawn) (map (withdrawal_at (length events)) os)
    ∙ ap (λ l. map (λ (w : Withdrawal). w.object) (drop reported withdrawn) ++ l) (objects-reported (length events) os ∙ o)
    ∙ ap (λ l. l ++ gone_of (table config (places config events) ++ (place_of config (places config events) e).exported_here) (is_kept config (place_of config (places config events) e ∷ places config events))) t
    ∙ sym (gone-next config events e)

-- What is to be told after the event.
reported-next : (config : SpaceConfig) (events : List Event) (e : Event) (withdrawn : List Withdrawal) (reported : ℕ) (os : List ObjId) → reported ≤ length withdrawn → map (λ (w : Withdrawal). w.object) (drop reported withdrawn) ≡ unreported_objects config (places config events) →
    os ≡ gone_of (table config (places config events) ++ (place_of config (places config events) e).exported_here) (is_kept config (place_of config (places config events) e ∷ places config events)) →
    map (λ (w : Withdrawal). w.object) (drop (reported_after reported (length (withdrawn ++ map (withdrawal_at (length events)) os)) e.ask) (withdrawn ++ map (withdrawal_at (length events)) os)) ≡ unreported_objects config (place_of config (places config events) e ∷ places config events)
reported-next config events e withdrawn reported os le t o = go (is_abandon e.ask) (unreported_objects-push config (places config events) e (numbered-place config events e))
  where
    all : List Withdrawal
    all = withdrawn ++ map (withdrawal_at (length events)) os

    go : (b : Bool) → unreported_objects config (place_of config (places config events) e ∷ places config events) ≡ (if b then gone_objects config (places config events) e else []) →
        map (λ (w : Withdrawal). w.object) (drop (if b then reported else length (withdrawn ++ map (withdrawal_at (length events)) os)) (withdrawn ++ map (withdrawal_at (length events)) os)) ≡ unreported_objects config (place_of config (places config events) e ∷ places config events)
    go true p = gone-kept config events e withdrawn reported os le t o ∙ sym p
    go false p = ap (map (λ (w : Withdrawal). w.object)) (drop_all (length (withdrawn ++ map (withdrawal_at (length events)) os)) (withdrawn ++ map (withdrawal_at (length events)) os) (omega arith)) ∙ sym p

-- The table after the withdrawal.
abbrev pub left : SpaceConfig → List Event → Event → ExportTable → ExportTable
left config events e t = record t {
  rows = filter (row_kept (max e.moment (now (places config events))) (held_by config.lease_ms (max e.moment (now (places config events))) (told_calls config events e)) t.waits) t.rows;
  waits = still_waiting (max e.moment (now (places config events))) t.waits;
}

-- All withdrawals then.
abbrev pub withdrawn_then : SpaceConfig → List Event → Event → ExportTable → List Withdrawal → List Withdrawal
withdrawn_then config events e t withdrawn = withdrawn ++ map (withdrawal_at (length events)) (going_now config events e t)

stands-push : (config : SpaceConfig) (events : List Event) (e : Event) (leases leases1 leases2 : LeaseTable) (exports t : ExportTable) (runs runs1 : List Run) (withdrawn : List Withdrawal) (reported opened used moment : ℕ) (effective : Bool) → effective ≡ is_effective config (places config events) e.by e.ask →
    Keeps config events leases exports runs withdrawn reported opened used moment → refusal (limits config) config (places config events) e ≡ None →
    IsActed config events e leases1 t runs1 → t.space ≡ config.uid → t.ack ≡ config.ack_ms → t.added ≡ opened + opens effective e.ask →
    StandsFor config.lease_ms leases2 (max e.moment (now (places config events))) (map (without_all (going_now config events e t)) (told_calls config events e)) →
    Stands config (place_of config (places config events) e ∷ places config events) leases2 (left config events e t) runs1 (withdrawn_then config events e t withdrawn)
    (reported_after reported (length (withdrawn_then config events e t withdrawn)) e.ask) (opened + opens effective e.ask) (used + units_of e.ask) (max e.moment (now (places config events)))
stands-push config events e leases leases1 leases2 exports t runs runs1 withdrawn reported opened used moment effective f k r a sp ac ad dropped =
    let goes : going_now config events e t ≡ gone_of (table config (places config events) ++ (place_of config (places config events) e).exported_here) (is_kept config (place_of config (places config events) e ∷ places config events)) = going-is config events e leases1 t runs1 a in
    let L : List ObjId → Type 0 = λ os. StandsFor config.lease_ms leases2 (max e.moment (now (places config events))) (map (without_all os) (told_calls config events e)) in
    let C : List Call → Type 0 = λ cs. StandsFor config.lease_ms leases2 (max e.moment (now (places config events))) cs in
    let more_units = units-push (place_of config (places config events) e) (places config events) in
    let same_units : units_of (place_of config (places config events) e).event.ask ≡ units_of e.ask = ap units_of (ask-place_of config (places config events) e) in
    let used_before = k.stands.used_is in
    record {
      leases_stand = subst C (sym (live-next config events e)) (subst L goes dropped);
      space_is = sp;
      ack_is = ac;
      added_is = ad;
      opened_is = (
          ap (λ n. n + opens effective e.ask) k.stands.opened_is
          ∙ ap (λ n. exported_count (places config events) + n) (ap (λ v. opens v e.ask) f ∙ sym (adds-length config (places config events) e))
          ∙ sym (next-push (place_of config (places config events) e) (places config events)));
      rows_are = (
          ap (filter (row_kept (max e.moment (now (places config events))) (held_by config.lease_ms (max e.moment (now (places config events))) (told_calls config events e)) t.waits)) a.rows_are
          ∙ filter-rows (place_of config (places config events) e ∷ places config events) (row_kept (max e.moment (now (places config events))) (held_by config.lease_ms (max e.moment (now (places config events))) (told_calls config events e)) t.waits)
          (is_kept config (place_of config (places config events) e ∷ places config events)) (table config (places config events) ++ (place_of config (places config events) e).exported_here) (rows-kept config events e leases1 t runs1 a)
          ∙ ap (rows_of (place_of config (places config events) e ∷ places config events)) (sym (table-place config (places config events) e)));
      waits_stand = waits-going (max e.moment (now (places config events))) config.ack_ms (place_of config (places config events) e ∷ places config events) t.waits a.waits_stand;
      runs_stand = a.runs_stand;
      withdrawn_are = ap (λ l. l ++ map (withdrawal_at (length events)) (going_now config events e t)) k.stands.withdrawn_are ∙ ap (λ os. withdrawals config (places config events) ++ map (withdrawal_at (length events)) os) goes ∙ sym (withdrawn-next config events e);
      reported_are = reported-next config events e withdrawn reported (going_now config events e t) k.stands.reported_within k.stands.reported_are goes;
      reported_within = reported-few (is_abandon e.ask) reported withdrawn (map (withdrawal_at (length events)) (going_now config events e t)) k.stands.reported_within;
      used_is = omega arith;
      moment_is = sym (now-push config (places config events) e);
      within = within-next config events e k.stands.within.calls r;
    }
  where
    reported-few : (b : Bool) (n : ℕ) (xs ys : List Withdrawal) → n ≤ length xs → (if b then n else length (xs ++ ys)) ≤ length (xs ++ ys)
    reported-few true n xs ys h = let long = length-append xs ys in omega (arith, h, long)
    reported-few false n xs ys h = omega arith

-- ---- the answer

pub step-refused : (config : SpaceConfig) (events : List Event) (e : Event) (refused : Refused) → refusal (limits config) config (places config events) e ≡ Some refused → Step config events e (Err refused) events
step-refused config events e refused r = inl (ap (answer_with config events e) (sym r), ap (history_with events e) (sym r))

pub step-taken : (config : SpaceConfig) (events : List Event) (e : Event) (turn : Turn) → refusal (limits config) config (places config events) e ≡ None → turn ≡ turn_of config events e → Step config events e (Ok turn) (events ++ e ∷ [])
step-taken config events e turn r t = inl (ap (λ x. Ok x) t ∙ ap (answer_with config events e) (sym r), ap (history_with events e) (sym r))

-- An answer that agrees with the refusal is a step.
pub step-agrees : (config : SpaceConfig) (events : List Event) (e : Event) (refused : Refused) → Agrees {T = Unit {0}} (refusal (limits config) config (places config events) e) (Err refused) → Step config events e (Err refused) events
step-agrees config events e refused (inl r) = step-refused config events e refused r
step-agrees config events e refused (inr m) = inr (ap (λ x. Err x) m, refl)

pub keeps-push : (config : SpaceConfig) (events : List Event) (e : Event) (leases leases1 leases2 : LeaseTable) (exports t : ExportTable) (runs runs1 : List Run) (withdrawn : List Withdrawal) (reported opened used moment : ℕ) (effective : Bool) → effective ≡ is_effective config (places config events) e.by e.ask →
    Keeps config events leases exports runs withdrawn reported opened used moment → e.moment < END_OF_TIME → refusal (limits config) config (places config events) e ≡ None →
    IsActed config events e leases1 t runs1 → t.space ≡ config.uid → t.ack ≡ config.ack_ms → t.added ≡ opened + opens effective e.ask →
    StandsFor config.lease_ms leases2 (max e.moment (now (places config events))) (map (without_all (going_now config events e t)) (told_calls config events e)) →
    Keeps config (events ++ e ∷ []) leases2 (left config events e t) runs1 (withdrawn_then config events e t withdrawn)
    (reported_after reported (length (withdrawn_then config events e t withdrawn)) e.ask) (opened + opens effective e.ask) (used + units_of e.ask) (max e.moment (now (places config events)))
keeps-push config events e leases leases1 leases2 exports t runs runs1 withdrawn reported opened used moment effective f k early r a sp ac ad dropped =
    let S : History → Type 0 = λ g. Stands config g leases2 (left config events e t) runs1 (withdrawn_then config events e t withdrawn)
    (reported_after reported (length (withdrawn_then config events e t withdrawn)) e.ask) (opened + opens effective e.ask) (used + units_of e.ask) (max e.moment (now (places config events))) in
    let longer : length (events ++ e ∷ []) ≡ length events + 1 = length-append events (e ∷ []) in
    record {
      durations = k.durations;
      stands = subst S (sym (places-push config events e)) (stands-push config events e leases leases1 leases2 exports t runs runs1 withdrawn reported opened used moment effective f k r a sp ac ad dropped);
      early = (let before = k.early in let time = k.stands.moment_is in omega (arith, before, time, early));
      few_events = (let before = k.few_events in let some = some-units e.ask in omega (arith, before, some, longer));
      few_opened = (let before = k.few_opened in let few = opened-few effective e.ask in omega (arith, before, few));
      legal = IsLegal-step config events (events ++ e ∷ []) e (Ok (turn_of config events e)) k.legal (step-taken config events e (turn_of config events e) r refl);
    }

-- ---- refusals

-- A lease call by the rows names those that it names by the table.
filter-alike : {X : Type 0} (p q : X → Bool) → ((x : X) → p x ≡ q x) → (xs : List X) → filter p xs ≡ filter q xs
filter-alike p q h [] = refl
filter-alike p q h (x ∷ xs) = rw (h x, filter-alike p q h xs) refl

pub call-alike : (p q : ObjId → Bool) → ((o : ObjId) → p o ≡ q o) → (moment : ℕ) (a : Ask) → call_with p moment a ≡ call_with q moment a
call-alike p q h moment (Dirty client number asked objects) = rw (filter-alike p q h objects) refl
call-alike p q h moment (Clean client number objects strong) = rw (filter-alike p q h objects) refl
call-alike p q h moment _ = refl

-- The rows name what the table names.
pub rows-has : (config : SpaceConfig) (events : List Event) (leases : LeaseTable) (exports : ExportTable) (runs : List Run) (withdrawn : List Withdrawal) (reported opened used moment : ℕ) → Keeps config events leases exports runs withdrawn reported opened used moment →
    (o : ObjId) → is_exported exports.rows o ≡ has (table config (places config events)) o
rows-has config events leases exports runs withdrawn reported opened used moment k o = ap (λ l. is_exported l o) k.stands.rows_are ∙ exported-has (places config events) (table config (places config events)) o

rows-length : (h : History) (xs : List Exported) → length (rows_of h xs) ≡ length xs
rows-length h [] = refl
rows-length h (x ∷ xs) = ap suc (rows-length h xs)

-- The refusal, by what is kept: for want of room, for the references that are returned, and then as the lease table says after the calls
-- that it stands for.
pub refusal-kept : (config : SpaceConfig) (events : List Event) (e : Event) (leases : LeaseTable) (exports : ExportTable) (runs : List Run) (withdrawn : List Withdrawal) (reported opened used moment : ℕ) → Keeps config events leases exports runs withdrawn reported opened used moment →
    refusal (limits config) config (places config events) e
    ≡ first_of_two (room_refusal config.stored used (length runs) (length exports.rows) (is_effective config (places config events) e.by e.ask) e.ask)
    (first_of_two (await_refusal (max e.moment (now (places config events))) exports.rows exports.waits (stood_for (places config events) e.ask) (is_effective config (places config events) e.by e.ask) e.ask)
    (first_of_two (lease_refusal config.lease_ms (max e.moment (now (places config events))) (live_calls (table config (places config events)) (lease_calls (places config events))) (call_with (has (table config (places config events))) (max e.moment (now (places config events))) e.ask))
    (name_refusal (length (names (places config events))) (stood_for (places config events) e.ask) (is_effective config (places config events) e.by e.ask) e.ask)))
refusal-kept config events e leases exports runs withdrawn reported opened used moment k =
    let N : ℕ → Type 0 = λ n. WaitsStand reference_of end_of config.ack_ms n (places config events) exports.waits in
    refusal-is config (places config events) e (await_refusal (max e.moment (now (places config events))) exports.rows exports.waits (stood_for (places config events) e.ask) (is_effective config (places config events) e.by e.ask) e.ask)
    (name_refusal (length (names (places config events))) (stood_for (places config events) e.ask) (is_effective config (places config events) e.by e.ask) e.ask)
    k.stands.within (await-is config events e exports.rows exports.waits k.stands.within k.stands.rows_are (subst N k.stands.moment_is k.stands.waits_stand)) (names-refused config events e k.stands.within.names)
    ∙ three _ _ _ _ _ _ (sym k.stands.used_is) (sym k.stands.runs_stand.all) (sym (rows-length (places config events) (table config (places config events))) ∙ sym (ap length k.stands.rows_are))
  where
    later : Option Refused
    later =
        first_of_two (await_refusal (max e.moment (now (places config events))) exports.rows exports.waits (stood_for (places config events) e.ask) (is_effective config (places config events) e.by e.ask) e.ask)
        (first_of_two (lease_refusal config.lease_ms (max e.moment (now (places config events))) (live_calls (table config (places config events)) (lease_calls (places config events))) (call_with (has (table config (places config events))) (max e.moment (now (places config events))) e.ask))
        (name_refusal (length (names (places config events))) (stood_for (places config events) e.ask) (is_effective config (places config events) e.by e.ask) e.ask))

    three : (u v r s n m : ℕ) → u ≡ v → r ≡ s → n ≡ m →
        first_of_two (room_refusal config.stored u r n (is_effective config (places config events) e.by e.ask) e.ask) later
        ≡ first_of_two (room_refusal config.stored v s m (is_effective config (places config events) e.by e.ask) e.ask) later
    three u v r s n m p q t = rw (p, q, t) refl

-- ---- steps

reply-found : (kinds : Option ℕ) (effective : Bool) → is_some kinds ≡ effective → (if effective then Started (unwrap_or kinds 0) else NoObject) ≡ started_reply kinds
reply-found None true e = absurd (cc)
reply-found None false e = refl
reply-found (Some kind) true e = refl
reply-found (Some kind) false e = absurd (cc)

found-some : (objects : List Exported) (o : ObjId) → is_some (option_map (λ (x : Exported). x.kind) (find (λ x. same_id x.id o) objects)) ≡ has objects o
found-some [] o = refl
found-some (x ∷ objects) o = go (same_id x.id o) (found-some objects o)
  where
    go : (b : Bool) → is_some (option_map (λ (y : Exported). y.kind) (find (λ y. same_id y.id o) objects)) ≡ has objects o →
        is_some (option_map (λ (y : Exported). y.kind) (cond b (Some x) (find (λ y. same_id y.id o) objects))) ≡ (b || has objects o)
    go true e = refl
    go false e = e

reply-is : (config : SpaceConfig) (h : History) (e : Event) (opened : ℕ) (rows : List Export) (effective : Bool) → opened ≡ exported_count h → rows ≡ rows_of h (table config h) → effective ≡ is_effective config h e.by e.ask →
    reply config h e ≡ reply_at config opened rows (names h) (stood_for h e.ask) effective e.ask
unfolding reply place_of is_effective exports
reply-is config h e opened rows effective k rs f = go e.ask ∙ ap (λ n. reply_at config n (rows_of h (table config h)) (names h) (stood_for h e.ask) (is_effective config h e.by e.ask) e.ask) (sym k)
    ∙ ap (λ l. reply_at config opened l (names h) (stood_for h e.ask) (is_effective config h e.by e.ask) e.ask) (sym rs) ∙ ap (λ v. reply_at config opened rows (names h) (stood_for h e.ask) v e.ask) (sym f)
  where
    finished : (v : Bool) (made : List ℕ) → (if v then Finished (ids (if v then exported_from config.uid (exported_count h) false made else [])) else NotRunning) ≡ (if v then Finished (new_ids config.uid (exported_count h) made) else NotRunning)
    finished true made = ap (λ l. Finished l) (new-ids config.uid (exported_count h) false made)
    finished false made = refl

    found : (s : Option ObjId) → reply_found (table config h) s ≡ found_reply (rows_of h (table config h)) s
    found None = refl
    found (Some o) = ap (λ k. Found o (unwrap_or k 0)) (sym (kind-is h (table config h) o))

    go : (a : Ask) → reply config h (record e { ask = a }) ≡ reply_at config (exported_count h) (rows_of h (table config h)) (names h) (stood_for h a) (is_effective config h e.by a) a
    go (Open kind pinned) = refl
    go (Begin o) =
        reply-found (option_map (λ (x : Exported). x.kind) (find (λ x. same_id x.id o) (table config h))) (has (table config h) o) (found-some (table config h) o)
        ∙ ap started_reply (sym (kind-is h (table config h) o))
    go (Abandon o) = refl
    go (Dirty x y z w) = refl
    go (Clean x y z w) = refl
    go (Ack u) = refl
    go Tick = refl
    go (Finish x y z w) = finished (nat_lt 0 (running_calls_by h e.by x)) y
    go (Bind n o) = ap (λ b. if has (table config h) o && is_none (stands_for h n) then Bound else if b then AlreadyBound else NoObject) (sym (exported-has h (table config h) o))
    go (Rebind n o) = refl
    go (Unbind n) = refl
    go (Lookup n u) = found (stands_for h n)
    go ListNames = refl

-- The turn of an event.
pub turn-is : (config : SpaceConfig) (events : List Event) (e : Event) (leases leases1 : LeaseTable) (exports t : ExportTable) (runs runs1 : List Run) (withdrawn : List Withdrawal) (reported opened used moment : ℕ) (effective : Bool) → Keeps config events leases exports runs withdrawn reported opened used moment →
    effective ≡ is_effective config (places config events) e.by e.ask → IsActed config events e leases1 t runs1 →
    turn_of config events e ≡ record { place = length events; reply = reply_at config opened exports.rows (names (places config events)) (stood_for (places config events) e.ask) effective e.ask; gone = map (λ (w : Withdrawal). w.object) (drop reported withdrawn) ++ going_now config events e t }
turn-is config events e leases leases1 exports t runs runs1 withdrawn reported opened used moment effective k f a =
    two _ _ _ _ (reply-is config (places config events) e opened exports.rows effective k.stands.opened_is k.stands.rows_are f)
    (gone-next config events e ∙ ap (λ l. l ++ gone_of (table config (places config events) ++ (place_of config (places config events) e).exported_here) (is_kept config (place_of config (places config events) e ∷ places config events))) (sym k.stands.reported_are)
    ∙ ap (λ l. map (λ (w : Withdrawal). w.object) (drop reported withdrawn) ++ l) (sym (going-is config events e leases1 t runs1 a)))
  where
    two : (r s : Reply) (g g' : List ObjId) → r ≡ s → g ≡ g' → ◌≡◌ {A = Turn} (record { place = length events; reply = r; gone = g }) (record { place = length events; reply = s; gone = g' })
    two r s g g' p q = cc
