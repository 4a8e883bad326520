-- What a turn requires of its parts, by what is kept.
use Rattle.std.proofs.Common.{◌≡◌, ℕ, ◌+◌, ◌<◌, ◌≤◌, ◌^◌, suc, List, [], ◌∷◌, ◌++◌, length, refl, ap, sym, subst, ◌∙◌, cond, map, max, arith, Option, Some, None, length-append}
use Rattle.std.specs.Prelude.{Bool, true, false, not, ◌&&◌, ◌==◌, filter, nat_lt, nat_le, is_none, option_and_then, option_map, unwrap_or, if◌then◌else◌}
use Rattle.std.proofs.lemmas.Bool.{and_parts, ltb-true, ltb-false}
use Rattle.object_ids.specs.declared.ids.Uid.{Uid}
use Rattle.object_ids.specs.declared.ids.ObjId.{ObjId}
use Rattle.object_ids.specs.declared.ids.FullKind.TheVariants.{Exports}
use Rattle.object_ids.specs.Same.{same_id}
use Rattle.history.specs.declared.asks.SpaceConfig.{SpaceConfig}
use Rattle.history.specs.declared.asks.Event.{Event}
use Rattle.history.specs.declared.asks.Ask.{Ask}
use Rattle.history.specs.declared.asks.Ask.TheVariants.{Open, Begin, Finish, Abandon, Dirty, Clean, Ack, Bind, Rebind, Unbind, Lookup, List as ListNames, Tick}
use Rattle.history.specs.declared.limits.TheConstants.{MAX_EXPORTS, MAX_AWAITING, MAX_RUNNING_CALLS}
use Rattle.history.specs.declared.places.Withdrawal.{Withdrawal}
use Rattle.history.specs.declared.replies.Refused.{Refused}
use Rattle.history.specs.declared.replies.Refused.TheVariants.{HistoryFull, Full}
use Rattle.history.specs.Names.{name_in, object_bound, stands_for}
use Rattle.history.specs.Places.{History, now, id_at, exported_count}
use Rattle.history.specs.Limits.{units_of, is_begin, is_end, units_limit}
use Rattle.history.specs.Running.{running_calls_by, running_calls}
use Rattle.history.specs.Table.{is_effective, table, places}
use Rattle.dgc_server.specs.StandsForCalls.{LeaseTable}
use Rattle.export_table.specs.declared.rows.Export.{Export}
use Rattle.export_table.specs.declared.waits.Wait.{Wait}
use Rattle.export_table.specs.ExportRows.{is_of, row_of, is_exported, is_row_kept as row_kept, running_of, pins_of, new_row, with_row_changed, with_call_begun, with_call_ended, pinned_once, unpinned_once, with_pin_removed, withdrawn_ids as rows_withdrawn}
use Rattle.export_table.specs.Table.{ExportTable}
use Rattle.space.specs.declared.runs.Run.{Run}
use Rattle.space.specs.Acts.{effective_by, opens, new_rows, new_ids, returned_by, awaiting_with, acted_exports, room_refusal, await_refusal}
use Rattle.space.specs.Kept.{Keeps}
use Rattle.space.specs.Runs.{is_run, is_run_on, object_of}
use Rattle.export_table.specs.StandsForHistory.{WaitsStand, reference_of, end_of}
use Rattle.space.proofs.AwaitLaws.{return-few, lookup-few}
use Rattle.export_table.proofs.ThereLaws.{running-there}
use Rattle.space.proofs.TurnLaws.{IsAsked, is-effective, keeps-room}
use Rattle.export_table.proofs.StandLaws.{exported-has, named-pins, pins-few, pins-there, running-there as rows-running, running-few}
use Rattle.rmi_registry.specs.declared.binding.Binding.{Binding}
use Rattle.rmi_registry.specs.Bindings.{object_of as standing_object}
use Rattle.rmi_registry.specs.StandsForHistory.{AreBindings}
use Rattle.export_table.proofs.RowLaws.{exported-changed, row-changed}
use Rattle.history.proofs.NamedLaws.{named-exported}
use Rattle.space.proofs.Acting.{stood_for}

-- What is kept once there is room.
pub keeps-roomy : (config : SpaceConfig) (events events' : List Event) (leases leases' : LeaseTable) (x y : ExportTable) (runs runs' : List Run) (withdrawn withdrawn' : List Withdrawal) (reported opened used moment : ℕ) →
    Keeps config events leases x runs withdrawn reported opened used moment → y ≡ record x { room = y.room } → events' ≡ events → leases' ≡ leases → runs' ≡ runs → withdrawn' ≡ withdrawn → Keeps config events' leases' y runs' withdrawn' reported opened used moment
keeps-roomy config events events' leases leases' x y runs runs' withdrawn withdrawn' reported opened used moment k r ev le ru wi =
    let E : List Event → Type 0 = λ es. Keeps config es leases' y runs' withdrawn' reported opened used moment in
    let L : LeaseTable → Type 0 = λ ls. Keeps config events ls y runs' withdrawn' reported opened used moment in
    let R : List Run → Type 0 = λ rs. Keeps config events leases y rs withdrawn' reported opened used moment in
    let W : List Withdrawal → Type 0 = λ ws. Keeps config events leases y runs ws reported opened used moment in
    subst E (sym ev) (subst L (sym le) (subst R (sym ru) (subst W (sym wi) (keeps-room config events leases x y runs withdrawn reported opened used moment y.room r k))))

pub asked : (config : SpaceConfig) (events : List Event) (e : Event) (leases : LeaseTable) (x y : ExportTable) (runs seen : List Run) (withdrawn : List Withdrawal) (reported opened used moment : ℕ) (stood : Option ObjId) (effective : Bool) →
    Keeps config events leases x runs withdrawn reported opened used moment → stood ≡ stood_for (places config events) e.ask → effective ≡ effective_by x.rows seen stood e.by e.ask → seen ≡ runs → y ≡ record x { room = y.room } →
    IsAsked config events e leases y runs withdrawn reported opened used moment effective
asked config events e leases x y runs seen withdrawn reported opened used moment stood effective k st f s r = record {
  keeps = keeps-room config events leases x y runs withdrawn reported opened used moment y.room r k;
  tested = f ∙ ap (λ o. effective_by x.rows seen o e.by e.ask) st ∙ ap (λ rs. effective_by x.rows rs (stood_for (places config events) e.ask) e.by e.ask) s
      ∙ ap (λ l. effective_by l runs (stood_for (places config events) e.ask) e.by e.ask) (sym (ap (λ (t : ExportTable). t.rows) r));
}

-- The room, by what was counted.
pub room-as : (stored : Bool) (used running count : ℕ) (effective : Bool) (a : Ask) (runs : List Run) (x y : ExportTable) (room answer : Option Refused) → room ≡ room_refusal stored used running count effective a → running ≡ length runs → count ≡ length x.rows → y ≡ record x { room = y.room } →
    room ≡ answer → room_refusal stored used (length runs) (length y.rows) effective a ≡ answer
room-as stored used running count effective a runs x y room answer e n m r s =
    ap (λ l. room_refusal stored used (length runs) (length l) effective a) (ap (λ (t : ExportTable). t.rows) r)
    ∙ ap (λ k. room_refusal stored used (length runs) k effective a) (sym m) ∙ ap (λ k. room_refusal stored used k count effective a) (sym n) ∙ sym e ∙ s

-- ---- running calls

fewer : {R : Type 0} (p q : R → Bool) → ((r : R) → p r ≡ true → q r ≡ true) → (rs : List R) → length (filter p rs) ≤ length (filter q rs)
fewer p q f [] = omega arith
fewer {R} p q f (r ∷ rs) = go (p r) (q r) (f r) (fewer p q f rs)
  where
    go : (a b : Bool) → (a ≡ true → b ≡ true) → length (filter p rs) ≤ length (filter q rs) → length (cond a (r ∷ filter p rs) (filter p rs)) ≤ length (cond b (r ∷ filter q rs) (filter q rs))
    go true true g h = omega arith
    go true false g h = absurd (let never = g refl in cc)
    go false true g h = omega arith
    go false false g h = h

shorter : {R : Type 0} (q : R → Bool) (rs : List R) → length (filter q rs) ≤ length rs
shorter q [] = omega arith
shorter {R} q (r ∷ rs) = go (q r) (shorter q rs)
  where
    go : (b : Bool) → length (filter q rs) ≤ length rs → length (cond b (r ∷ filter q rs) (filter q rs)) ≤ length (r ∷ rs)
    go true h = omega arith
    go false h = omega arith

pub few-run : (config : SpaceConfig) (events : List Event) (leases : LeaseTable) (exports : ExportTable) (runs : List Run) (withdrawn : List Withdrawal) (reported opened used moment : ℕ) → Keeps config events leases exports runs withdrawn reported opened used moment →
    (o : ObjId) → running_of exports.rows o < 2 ^ 31
few-run config events leases exports runs withdrawn reported opened used moment k o =
    let rows = ap (λ l. running_of l o) k.stands.rows_are in
    let few = running-few (places config events) (table config (places config events)) o in
    let calls = k.stands.runs_stand.calls o in
    let all = k.stands.runs_stand.all in
    let short = shorter (is_run_on object_of o) runs in
    let units_few = k.stands.within.calls in
    omega (arith, rows, few, calls, all, short, units_few)

-- Where a connection runs a call of an object, its row has one.
run-counted : (config : SpaceConfig) (events : List Event) (leases : LeaseTable) (exports : ExportTable) (runs : List Run) (withdrawn : List Withdrawal) (reported opened used moment : ℕ) → Keeps config events leases exports runs withdrawn reported opened used moment →
    (by : ℕ) (o : ObjId) → 0 < running_calls_by (places config events) by o → 0 < running_of exports.rows o
run-counted config events leases exports runs withdrawn reported opened used moment k by o r =
    let lines = k.stands.runs_stand.lines by o in
    let calls = k.stands.runs_stand.calls o in
    let more = fewer (is_run by o) (is_run_on object_of o) (λ q h. (and_parts (q.by == by) (same_id q.object o) h).1) runs in
    let some : 0 < running_calls (places config events) o = omega (arith, lines, calls, more, r) in
    let there = running-there config events o some in
    let rows = ap (λ l. running_of l o) k.stands.rows_are ∙ rows-running (places config events) (table config (places config events)) o there in
    omega (arith, rows, some)

abandon-effective : (config : SpaceConfig) (events : List Event) (by : ℕ) (o : ObjId) → is_effective config (places config events) by (Abandon o) ≡ true → 0 < running_calls_by (places config events) by o
unfolding is_effective
abandon-effective config events by o e = ltb-true 0 (running_calls_by (places config events) by o) e

pub abandon-counted : (config : SpaceConfig) (events : List Event) (e : Event) (leases : LeaseTable) (exports : ExportTable) (runs : List Run) (withdrawn : List Withdrawal) (reported opened used moment : ℕ) (effective : Bool) →
    IsAsked config events e leases exports runs withdrawn reported opened used moment effective → (o : ObjId) → effective ≡ true → e.ask ≡ Abandon o → 0 < running_of exports.rows o
abandon-counted config events e leases exports runs withdrawn reported opened used moment effective q o t s =
    run-counted config events leases exports runs withdrawn reported opened used moment q.keeps e.by o
    (abandon-effective config events e.by o (ap (is_effective config (places config events) e.by) (sym s) ∙ sym (is-effective config events e leases exports runs withdrawn reported opened used moment effective q) ∙ t))

-- The same of a return, and what it returns is few enough.
finish-effective : (config : SpaceConfig) (events : List Event) (by : ℕ) (o : ObjId) (made : List ℕ) (listed : List ObjId) (u : Uid) → is_effective config (places config events) by (Finish o made listed u) ≡ true → 0 < running_calls_by (places config events) by o
unfolding is_effective
finish-effective config events by o made listed u e = ltb-true 0 (running_calls_by (places config events) by o) e

pub finish-counted : (config : SpaceConfig) (events : List Event) (e : Event) (leases : LeaseTable) (exports : ExportTable) (runs : List Run) (withdrawn : List Withdrawal) (reported opened used moment : ℕ) (effective : Bool) →
    IsAsked config events e leases exports runs withdrawn reported opened used moment effective → (o : ObjId) (made : List ℕ) (listed : List ObjId) (u : Uid) → effective ≡ true → e.ask ≡ Finish o made listed u → 0 < running_of exports.rows o
finish-counted config events e leases exports runs withdrawn reported opened used moment effective q o made listed u t s =
    run-counted config events leases exports runs withdrawn reported opened used moment q.keeps e.by o
    (finish-effective config events e.by o made listed u (ap (is_effective config (places config events) e.by) (sym s) ∙ sym (is-effective config events e leases exports runs withdrawn reported opened used moment effective q) ∙ t))

pub finish-few : (config : SpaceConfig) (events : List Event) (e : Event) (leases : LeaseTable) (exports : ExportTable) (runs : List Run) (withdrawn : List Withdrawal) (reported opened used moment time : ℕ) (effective : Bool) →
    IsAsked config events e leases exports runs withdrawn reported opened used moment effective → time ≡ max e.moment moment → await_refusal time exports.rows exports.waits (stood_for (places config events) e.ask) effective e.ask ≡ None →
    (os : List ObjId) → os ≡ returned_by exports.space exports.added exports.rows (stood_for (places config events) e.ask) effective e.ask →
    (o : ObjId) (made : List ℕ) (listed : List ObjId) (u : Uid) → effective ≡ true → e.ask ≡ Finish o made listed u → awaiting_with time u os exports.waits ≤ MAX_AWAITING
finish-few config events e leases exports runs withdrawn reported opened used moment time effective q at fit os same o made listed u t s =
    let N : ℕ → Type 0 = λ n. WaitsStand reference_of end_of config.ack_ms n (places config events) exports.waits in
    let k = q.keeps in
    let time_is : time ≡ max e.moment (now (places config events)) = at ∙ ap (max e.moment) k.stands.moment_is in
    let few = return-few config events e exports.rows exports.waits o made listed u
    (record { asked = s; effective = sym (is-effective config events e leases exports runs withdrawn reported opened used moment effective q) ∙ t; rows_are = k.stands.rows_are; waits_stand = subst N k.stands.moment_is k.stands.waits_stand })
    (ap (λ n. await_refusal n exports.rows exports.waits (stood_for (places config events) e.ask) true (Finish o made listed u)) (sym time_is) ∙ ap (λ v. await_refusal time exports.rows exports.waits (stood_for (places config events) e.ask) v (Finish o made listed u)) (sym t)
    ∙ ap (await_refusal time exports.rows exports.waits (stood_for (places config events) e.ask) effective) (sym s) ∙ fit) in
    let is : awaiting_with time u os exports.waits ≡ awaiting_with (max e.moment (now (places config events))) u (new_ids config.uid (exported_count (places config events)) made ++ filter (is_exported exports.rows) listed) exports.waits =
    ap (λ l. awaiting_with time u l exports.waits) (same ∙ ap (λ v. returned_by exports.space exports.added exports.rows (stood_for (places config events) e.ask) v e.ask) t ∙ ap (returned_by exports.space exports.added exports.rows (stood_for (places config events) e.ask) true) s
    ∙ ap (λ y. new_ids y exports.added made ++ filter (is_exported exports.rows) listed) k.stands.space_is
    ∙ ap (λ n. new_ids config.uid n made ++ filter (is_exported exports.rows) listed) (k.stands.added_is ∙ k.stands.opened_is))
    ∙ ap (λ n. awaiting_with n u (new_ids config.uid (exported_count (places config events)) made ++ filter (is_exported exports.rows) listed) exports.waits) time_is in
    omega (arith, few, is)

-- The same of a lookup.
pub lookup-fits : (config : SpaceConfig) (events : List Event) (e : Event) (leases : LeaseTable) (exports : ExportTable) (runs : List Run) (withdrawn : List Withdrawal) (reported opened used moment time : ℕ) (effective : Bool) →
    IsAsked config events e leases exports runs withdrawn reported opened used moment effective → await_refusal time exports.rows exports.waits (stood_for (places config events) e.ask) effective e.ask ≡ None →
    (os : List ObjId) → os ≡ returned_by exports.space exports.added exports.rows (stood_for (places config events) e.ask) effective e.ask →
    (n : List ℕ) (u : Uid) → e.ask ≡ Lookup n u → awaiting_with time u os exports.waits ≤ MAX_AWAITING
lookup-fits config events e leases exports runs withdrawn reported opened used moment time effective q fit os same n u s =
    let P : List ObjId → Type 0 = λ l. awaiting_with time u l exports.waits ≤ MAX_AWAITING in
    subst P (sym (same ∙ ap (returned_by exports.space exports.added exports.rows (stood_for (places config events) e.ask) effective) s))
    (lookup-few time u (stood_for (places config events) e.ask) exports.waits q.keeps.stands.waits_stand.once
    (ap (await_refusal time exports.rows exports.waits (stood_for (places config events) e.ask) effective) (sym s) ∙ fit))

-- ---- names

-- What the bindings have for the name in an ask is what the name stands for.
pub stood-is : (h : History) (bindings : List Binding) (a : Ask) → AreBindings h bindings → option_and_then (standing_object bindings) (name_in a) ≡ stood_for h a
stood-is h bindings a s = go (name_in a)
  where
    go : (n : Option (List ℕ)) → option_and_then (standing_object bindings) n ≡ option_and_then (stands_for h) n
    go None = refl
    go (Some n) = s.objects n

-- An object for which a name stands is exported, and has a pin.
pub stood-pinned : (config : SpaceConfig) (events : List Event) (leases : LeaseTable) (exports : ExportTable) (runs : List Run) (withdrawn : List Withdrawal) (reported opened used moment : ℕ) → Keeps config events leases exports runs withdrawn reported opened used moment →
    (a : Ask) (o : ObjId) → stood_for (places config events) a ≡ Some o → (is_exported exports.rows o ≡ true) × 0 < pins_of exports.rows o
stood-pinned config events leases exports runs withdrawn reported opened used moment k a o s = go (name_in a) s
  where
    go : (n : Option (List ℕ)) → option_and_then (stands_for (places config events)) n ≡ Some o → (is_exported exports.rows o ≡ true) × 0 < pins_of exports.rows o
    go None e = absurd (cc)
    go (Some n) e =
        let there = named-exported config events n o e in
        let some = named-pins config events n o e in
        let pins = ap (λ l. pins_of l o) k.stands.rows_are ∙ pins-there (places config events) (table config (places config events)) o there in
        (ap (λ l. is_exported l o) k.stands.rows_are ∙ exported-has (places config events) (table config (places config events)) o ∙ there, omega (arith, some, pins))

-- Another pin leaves it so.
pub still-pinned : (rows : List Export) (o p : ObjId) → (is_exported rows p ≡ true) × 0 < pins_of rows p → (is_exported (with_row_changed pinned_once o rows) p ≡ true) × 0 < pins_of (with_row_changed pinned_once o rows) p
still-pinned rows o p (there, some) = (exported-changed pinned_once o p (λ x. refl) rows ∙ there, more (row_of rows p) (row-changed pinned_once o p (λ x. refl) rows) some)
  where
    pinned : (b : Bool) (x : Export) → 0 < x.pins → 0 < (if b then pinned_once x else x).pins
    pinned true x h = omega arith
    pinned false x h = h

    more : (r : Option Export) → row_of (with_row_changed pinned_once o rows) p ≡ option_map (λ x. if is_of o x then pinned_once x else x) r → 0 < unwrap_or (option_map (λ (x : Export). x.pins) r) 0 →
        0 < unwrap_or (option_map (λ (x : Export). x.pins) (row_of (with_row_changed pinned_once o rows) p)) 0
    more None e h = absurd (omega (arith, h))
    more (Some x) e h =
        let R : Option Export → Type 0 = λ q. 0 < unwrap_or (option_map (λ (y : Export). y.pins) q) 0 in
        subst R (sym e) (pinned (is_of o x) x h)

-- No object has more pins than there are names.
pub few-pins : (config : SpaceConfig) (events : List Event) (leases : LeaseTable) (exports : ExportTable) (runs : List Run) (withdrawn : List Withdrawal) (reported opened used moment : ℕ) → Keeps config events leases exports runs withdrawn reported opened used moment →
    (o : ObjId) → pins_of exports.rows o < 2 ^ 31
few-pins config events leases exports runs withdrawn reported opened used moment k o =
    let rows = ap (λ l. pins_of l o) k.stands.rows_are in
    let few = pins-few (places config events) (table config (places config events)) o in
    let names_few = k.stands.within.names in
    omega (arith, rows, few, names_few)

-- An object to which a name is bound is exported.
pub bound-exported : (rows : List Export) (runs : List Run) (stood : Option ObjId) (by : ℕ) (a : Ask) (o : ObjId) → effective_by rows runs stood by a ≡ true → object_bound a ≡ Some o → is_exported rows o ≡ true
bound-exported rows runs stood by (Bind n x) o e b = ap (λ s. is_exported rows (unwrap_or s x)) (sym b) ∙ (and_parts (is_exported rows x) (is_none stood) e).0
bound-exported rows runs stood by (Rebind n x) o e b = ap (λ s. is_exported rows (unwrap_or s x)) (sym b) ∙ e
bound-exported rows runs stood by _ o e b = absurd (cc)

-- ---- what room leaves

-- Where there is room, the objects that the event exports are within their limit.
pub room-exports : (stored : Bool) (used running exported : ℕ) (effective : Bool) (a : Ask) → room_refusal stored used running exported effective a ≡ None → exported + opens effective a ≤ MAX_EXPORTS
room-exports stored used running exported effective a h =
    ltb-false MAX_EXPORTS (exported + opens effective a)
    (unfull (nat_lt (units_limit stored + (if effective && is_end a then 1 else 0)) (used + running + units_of a + (if effective && is_begin a then 1 else 0))) ((effective && is_begin a) && nat_le MAX_RUNNING_CALLS running) (nat_lt MAX_EXPORTS (exported + opens effective a)) h)
  where
    unfull : (b z c : Bool) → (if b then Some HistoryFull else if z then Some HistoryFull else if c then Some (Full Exports) else None) ≡ None → c ≡ false
    unfull true z c h = absurd (cc)
    unfull false true c h = absurd (cc)
    unfull false false true h = absurd (cc)
    unfull false false false h = refl

-- ---- rows

changed-length : (f : Export → Export) (o : ObjId) (rows : List Export) → length (with_row_changed f o rows) ≡ length rows
changed-length f o [] = refl
changed-length f o (x ∷ rows) = ap suc (changed-length f o rows)

new_rows-length : (space : Uid) (k : ℕ) (kinds : List ℕ) → length (new_rows space k kinds) ≡ length kinds
new_rows-length space k [] = refl
new_rows-length space k (kind ∷ kinds) = ap suc (new_rows-length space (k + 1) kinds)

unpinned-length : (stood : Option ObjId) (rows : List Export) → length (with_pin_removed stood rows) ≡ length rows
unpinned-length None rows = refl
unpinned-length (Some o) rows = changed-length unpinned_once o rows

pub acted-few : (stood : Option ObjId) (effective : Bool) (at : ℕ) (a : Ask) (x y : ExportTable) → y ≡ record (acted_exports stood effective at a x) { room = y.room } → length y.rows ≤ length x.rows + opens effective a
acted-few stood effective at a x y e = (let rows : length y.rows ≡ length (acted_exports stood effective at a x).rows = ap (λ (t : ExportTable). length t.rows) e in let few = go effective a in omega (arith, rows, few))
  where
    rebound : (o : ObjId) → length (with_pin_removed stood (with_row_changed pinned_once o x.rows)) ≡ length x.rows
    rebound o = unpinned-length stood (with_row_changed pinned_once o x.rows) ∙ changed-length pinned_once o x.rows

    go : (effective : Bool) (a : Ask) → length (acted_exports stood effective at a x).rows ≤ length x.rows + opens effective a
    go effective (Open kind pinned) = let both = length-append x.rows (new_row (id_at x.space x.added) kind pinned ∷ []) in omega (arith, both)
    go true (Begin o) = let same = changed-length with_call_begun o x.rows in omega (arith, same)
    go false (Begin o) = omega arith
    go true (Finish o made listed u) =
        let same = changed-length with_call_ended o x.rows in let both = length-append (with_row_changed with_call_ended o x.rows) (new_rows x.space x.added made) in let new = new_rows-length x.space x.added made in omega (arith, same, both, new)
    go false (Finish o made listed u) = omega arith
    go true (Abandon o) = let same = changed-length with_call_ended o x.rows in omega (arith, same)
    go false (Abandon o) = omega arith
    go true (Bind n o) = let same = rebound o in omega (arith, same)
    go false (Bind n o) = omega arith
    go true (Rebind n o) = let same = rebound o in omega (arith, same)
    go false (Rebind n o) = omega arith
    go true (Unbind n) = let same = unpinned-length stood x.rows in omega (arith, same)
    go false (Unbind n) = omega arith
    go effective (Ack u) = omega arith
    go effective (Dirty y z v w) = omega arith
    go effective (Clean y z v w) = omega arith
    go effective (Lookup n u) = omega arith
    go effective Tick = omega arith
    go effective ListNames = omega arith

-- No more objects go than there are.
pub gone-few : (n : ℕ) (held : ObjId → Bool) (waits : List Wait) (rows : List Export) → length (rows_withdrawn n held waits rows) ≤ length rows
gone-few n held waits [] = omega arith
gone-few n held waits (x ∷ rows) = go (row_kept n held waits x) (gone-few n held waits rows)
  where
    go : (b : Bool) → length (rows_withdrawn n held waits rows) ≤ length rows →
        length (map (λ (r : Export). r.id) (cond (not b) (x ∷ filter (λ r. not (row_kept n held waits r)) rows) (filter (λ r. not (row_kept n held waits r)) rows))) ≤ length (x ∷ rows)
    go true h = omega arith
    go false h = omega arith
