-- A running call is ended, by what its parts answered.
use Rattle.std.proofs.Common.{◌≡◌, ℕ, suc, ◌+◌, ◌<◌, ◌≤◌, List, [], ◌∷◌, ◌++◌, length, refl, ap, sym, subst, ◌∙◌, map, max, arith, None, Ok, length-append}
use Rattle.std.specs.Prelude.{Bool, true, false, ◌||◌, if◌then◌else◌}
use Rattle.std.specs.List.{list_any}
use Rattle.std.proofs.lemmas.Bool.{lt-ltb, le-ltb}
use Rattle.object_ids.specs.declared.ids.ObjId.{ObjId}
use Rattle.history.specs.declared.places.Exported.{Exported}
use Rattle.history.specs.declared.asks.SpaceConfig.{SpaceConfig}
use Rattle.history.specs.declared.asks.Event.{Event}
use Rattle.history.specs.declared.asks.Ask.TheVariants.{Abandon}
use Rattle.history.specs.declared.limits.TheConstants.{MAX_EXPORTS, END_OF_TIME}
use Rattle.history.specs.Limits.{units_limit}
use Rattle.history.specs.declared.places.Withdrawal.{Withdrawal}
use Rattle.history.specs.Running.{running_calls_by}
use Rattle.history.specs.Steps.{Step, turn_of}
use Rattle.history.specs.Table.{is_effective, table, places}
use Rattle.dgc_server.specs.StandsForCalls.{LeaseTable, StandsFor, ForEachLog}
use Rattle.export_table.specs.declared.rows.Export.{Export}
use Rattle.export_table.specs.ExportRows.{with_row_changed, with_call_ended, running_of}
use Rattle.export_table.specs.Table.{ExportTable}
use Rattle.space.specs.declared.runs.Run.{Run}
use Rattle.space.specs.Acts.{event_of, room_refusal, withdrawal_at}
use Rattle.space.specs.Ahead.{HasRoom}
use Rattle.space.specs.Built.{SpaceHistory}
use Rattle.space.specs.Kept.{Keeps}
use Rattle.space.specs.Runs.{is_run, without_first}
use Rattle.space.specs.RunTable.{AreSame}
use Rattle.space.specs.Withdrawing.{HasWithdrawn}
use Rattle.space.proofs.Acting.{effective-is}
use Rattle.space.proofs.AheadLaws.{room-next}
use Rattle.space.proofs.AskLaws.{abandon-counted}
use Rattle.space.proofs.RunLists.{as-many}
use Rattle.space.proofs.Keeping.{step-taken}
use Rattle.space.proofs.TurnLaws.{IsAsked, HasActed, taken, turn-keeps}
use Rattle.export_table.specs.StandsForHistory.{rows_of}

-- ---- before it acts

-- What is said of the space is said of its fields.
pub is-running : {shown : List Exported} (config : SpaceConfig) (events : List Event) (by : ℕ) (o : ObjId) (s : SpaceHistory) → record { configuration = config; events = events; rows = shown } ≡ s → 0 < running_calls_by (places s.configuration s.events) by o → 0 < running_calls_by (places config events) by o
is-running config events by o s v r = let P : SpaceHistory → Type 0 = λ h. 0 < running_calls_by (places h.configuration h.events) by o in subst P (sym v) r

pub runs-effective : (config : SpaceConfig) (events : List Event) (by : ℕ) (o : ObjId) → 0 < running_calls_by (places config events) by o → is_effective config (places config events) by (Abandon o) ≡ true
unfolding is_effective
runs-effective config events by o r = lt-ltb 0 (running_calls_by (places config events) by o) r

pub end-asked : (config : SpaceConfig) (events : List Event) (by m : ℕ) (o : ObjId) (leases : LeaseTable) (exports : ExportTable) (runs : List Run) (withdrawn : List Withdrawal) (reported opened used moment : ℕ) →
    Keeps config events leases exports runs withdrawn reported opened used moment → 0 < running_calls_by (places config events) by o → IsAsked config events (event_of by m (Abandon o)) leases exports runs withdrawn reported opened used moment true
end-asked config events by m o leases exports runs withdrawn reported opened used moment k r = record {
  keeps = k;
  tested = sym (effective-is config events by (Abandon o) exports.rows runs k.stands.rows_are k.stands.runs_stand ∙ runs-effective config events by o r);
}

-- The row of the object has a running call.
pub end-counted : (config : SpaceConfig) (events : List Event) (by m : ℕ) (o : ObjId) (leases : LeaseTable) (exports : ExportTable) (runs : List Run) (withdrawn : List Withdrawal) (reported opened used moment : ℕ) →
    Keeps config events leases exports runs withdrawn reported opened used moment → 0 < running_calls_by (places config events) by o → 0 < running_of exports.rows o
end-counted config events by m o leases exports runs withdrawn reported opened used moment k r =
    abandon-counted config events (event_of by m (Abandon o)) leases exports runs withdrawn reported opened used moment true (end-asked config events by m o leases exports runs withdrawn reported opened used moment k r) o refl refl

none-left : {X : Type 0} (test : X → Bool) (xs : List X) → list_any test xs ≡ true → length (without_first test xs) + 1 ≡ length xs
none-left test [] h = absurd (cc)
none-left {X} test (x ∷ xs) h = go (test x) h (none-left test xs)
  where
    go : (b : Bool) → (b || list_any test xs) ≡ true → (list_any test xs ≡ true → length (without_first test xs) + 1 ≡ length xs) → length (if b then xs else x ∷ without_first test xs) + 1 ≡ length (x ∷ xs)
    go true h f = omega arith
    go false h f = let e = f h in omega (arith, e)

-- One call fewer runs then.
pub runs-fewer : (config : SpaceConfig) (events : List Event) (by : ℕ) (o : ObjId) (leases : LeaseTable) (exports : ExportTable) (runs : List Run) (withdrawn : List Withdrawal) (reported opened used moment : ℕ) →
    Keeps config events leases exports runs withdrawn reported opened used moment → 0 < running_calls_by (places config events) by o → length (without_first (is_run by o) runs) + 1 ≡ length runs
runs-fewer config events by o leases exports runs withdrawn reported opened used moment k r =
    none-left (is_run by o) runs (effective-is config events by (Abandon o) exports.rows runs k.stands.rows_are k.stands.runs_stand ∙ runs-effective config events by o r)

-- The unit that was reserved for the end, and the object stays.
end-unrefused : (stored : Bool) (used running exported : ℕ) (o : ObjId) → used + running ≤ units_limit stored → exported ≤ MAX_EXPORTS → room_refusal stored used running exported true (Abandon o) ≡ None
end-unrefused stored used running exported o few rows = rw (le-ltb (units_limit stored + 1) (used + running + 1 + 0) (omega (arith, few)), le-ltb MAX_EXPORTS (exported + 0) (omega (arith, rows))) refl

pub rows-length : (config : SpaceConfig) (events : List Event) (leases : LeaseTable) (exports : ExportTable) (runs : List Run) (withdrawn : List Withdrawal) (reported opened used moment : ℕ) → Keeps config events leases exports runs withdrawn reported opened used moment → length exports.rows ≤ MAX_EXPORTS
rows-length config events leases exports runs withdrawn reported opened used moment k = (let same = ap length k.stands.rows_are in let long = mapped (table config (places config events)) in let few = k.stands.within.exports in omega (arith, same, long, few))
  where
    mapped : (xs : List _) → length (rows_of (places config events) xs) ≡ length xs
    mapped [] = refl
    mapped (x ∷ xs) = ap suc (mapped xs)

-- ---- once it has acted

pub end-acted : (config : SpaceConfig) (events : List Event) (by m : ℕ) (o : ObjId) (leases leases1 : LeaseTable) (exports t : ExportTable) (runs : List Run) (withdrawn : List Withdrawal) (reported opened used moment time : ℕ) →
    Keeps config events leases exports runs withdrawn reported opened used moment → 0 < running_calls_by (places config events) by o → m < END_OF_TIME → time ≡ max m moment →
    ForEachLog leases (λ lease n calls. StandsFor lease leases1 (max time n) calls) → t ≡ record exports { rows = with_row_changed with_call_ended o exports.rows } →
    HasActed config events (event_of by m (Abandon o)) leases leases1 exports t runs withdrawn reported opened used moment true
end-acted config events by m o leases leases1 exports t runs withdrawn reported opened used moment time k r early at lapsed act = record {
  asked = end-asked config events by m o leases exports runs withdrawn reported opened used moment k r;
  early = early;
  room = end-unrefused config.stored used (length runs) (length exports.rows) o (let units = k.stands.used_is in let calls = k.stands.runs_stand.all in let few = k.stands.within.history in omega (arith, units, calls, few))
      (rows-length config events leases exports runs withdrawn reported opened used moment k);
  fit = refl;
  unrefused = λ lease n calls s le. refl;
  told_leases = λ lease n calls s le. (
      let P : ℕ → Type 0 = λ i. StandsFor lease leases1 i calls in
      let same : max time n ≡ max m moment = omega (arith, at, le) in
      subst P same (lapsed lease n calls s));
  act = act;
}

-- WHAT IS KEPT once the call is ended.
pub end-keeps : (config : SpaceConfig) (events : List Event) (by m : ℕ) (o : ObjId) (leases leases1 leases2 : LeaseTable) (exports t x3 : ExportTable) (runs : List Run) (withdrawn : List Withdrawal) (reported opened used moment time : ℕ) (gone : List ObjId) (place : ℕ) (events' : List Event) (runs' : List Run) (withdrawn' : List Withdrawal) →
    HasActed config events (event_of by m (Abandon o)) leases leases1 exports t runs withdrawn reported opened used moment true → time ≡ max m moment → HasWithdrawn leases1 leases2 t x3 time [] gone →
    place ≡ length events → events' ≡ events ++ event_of by m (Abandon o) ∷ [] → AreSame runs' (without_first (is_run by o) runs) → withdrawn' ≡ withdrawn ++ map (withdrawal_at place) gone →
    Keeps config events' leases2 x3 runs' withdrawn' reported opened (used + 1) time
end-keeps config events by m o leases leases1 leases2 exports t x3 runs withdrawn reported opened used moment time gone place events' runs' withdrawn' a at w pl ev ru wi =
    let same : opened ≡ opened + 0 = omega arith in
    let P : ℕ → Type 0 = λ n. Keeps config events' leases2 x3 runs' withdrawn' reported n (used + 1) time in
    subst P (sym same)
    (turn-keeps config events (event_of by m (Abandon o)) leases leases1 leases2 exports t x3 runs withdrawn reported opened used moment time true [] gone a at w
    place reported (opened + 0) (used + 1) events' runs' withdrawn' pl ev ru wi refl refl refl)

-- Its room.
pub end-room : (config : SpaceConfig) (events events' : List Event) (by m : ℕ) (o : ObjId) (leases leases' : LeaseTable) (x y : ExportTable) (runs runs' : List Run) (withdrawn withdrawn' : List Withdrawal) (reported opened used moment reported' opened' used' moment' events_room withdrawn_room events_room' withdrawn_room' : ℕ) →
    Keeps config events leases x runs withdrawn reported opened used moment → HasRoom events events_room runs withdrawn withdrawn_room x → 0 < running_calls_by (places config events) by o →
    Keeps config events' leases' y runs' withdrawn' reported' opened' used' moment' → events' ≡ events ++ event_of by m (Abandon o) ∷ [] → AreSame runs' (without_first (is_run by o) runs) →
    events_room ≤ events_room' → withdrawn_room ≤ withdrawn_room' → HasRoom events' events_room' runs' withdrawn' withdrawn_room' y
end-room config events events' by m o leases leases' x y runs runs' withdrawn withdrawn' reported opened used moment reported' opened' used' moment' events_room withdrawn_room events_room' withdrawn_room' k r run l ev ru er wr =
    let longer : length events' ≡ length events + 1 = ap length ev ∙ length-append events (event_of by m (Abandon o) ∷ []) in
    let calls = as-many runs' (without_first (is_run by o) runs) ru in
    let fewer = runs-fewer config events by o leases x runs withdrawn reported opened used moment k run in
    let ends = r.ends in let goes = r.withdrawals in
    room-next config events events' (event_of by m (Abandon o)) leases leases' x y runs runs' withdrawn withdrawn' reported opened used moment reported' opened' used' moment' (length x.rows) events_room' withdrawn_room' true (sym (runs-effective config events by o run)) k l ev
    (omega arith) (omega (arith, longer, calls, fewer, ends, er)) (omega (arith, goes, wr))

-- WHAT IT IS ANSWERED, of the space that contracts see.
pub end-step : {shown : List Exported} (config : SpaceConfig) (events events' : List Event) (by m : ℕ) (o : ObjId) (leases leases1 : LeaseTable) (exports t : ExportTable) (runs : List Run) (withdrawn : List Withdrawal) (reported opened used moment : ℕ) (s : SpaceHistory) →
    HasActed config events (event_of by m (Abandon o)) leases leases1 exports t runs withdrawn reported opened used moment true → record { configuration = config; events = events; rows = shown } ≡ s → events' ≡ events ++ event_of by m (Abandon o) ∷ [] →
    Step s.configuration s.events (event_of by m (Abandon o)) (Ok (turn_of s.configuration s.events (event_of by m (Abandon o)))) events'
end-step config events events' by m o leases leases1 exports t runs withdrawn reported opened used moment s a v ev =
    let P : SpaceHistory → Type 0 = λ h. Step h.configuration h.events (event_of by m (Abandon o)) (Ok (turn_of h.configuration h.events (event_of by m (Abandon o)))) events' in
    let Q : List Event → Type 0 = λ es. Step config events (event_of by m (Abandon o)) (Ok (turn_of config events (event_of by m (Abandon o)))) es in
    subst P v (subst Q (sym ev)
    (step-taken config events (event_of by m (Abandon o)) (turn_of config events (event_of by m (Abandon o)))
    (taken config events (event_of by m (Abandon o)) leases exports runs withdrawn reported opened used moment true a.asked a.room a.fit a.unrefused) refl))

-- ---- what its parts require

changed-length : (f : Export → Export) (o : ObjId) (rows : List Export) → length (with_row_changed f o rows) ≡ length rows
changed-length f o [] = refl
changed-length f o (x ∷ rows) = ap suc (changed-length f o rows)

pub end-rows : (exports t : ExportTable) (o : ObjId) → t ≡ record exports { rows = with_row_changed with_call_ended o exports.rows } → length t.rows ≡ length exports.rows
end-rows exports t o e = ap (λ (x : ExportTable). length x.rows) e ∙ changed-length with_call_ended o exports.rows

-- Some object is exported where one has a running call.
pub some-rows : (rows : List Export) (o : ObjId) → 0 < running_of rows o → 1 ≤ length rows
some-rows [] o h = absurd (let none : 0 < 0 = h in omega (arith, none))
some-rows (x ∷ rows) o h = omega arith
