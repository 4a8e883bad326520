-- The room that a space keeps, after one more event.
use Rattle.std.proofs.Common.{◌≡◌, ℕ, ◌+◌, ◌<◌, ◌≤◌, ◌^◌, List, [], ◌∷◌, ◌++◌, length, refl, ap, sym, subst, ◌∙◌, cond, arith, length-append}
use Rattle.std.specs.Prelude.{Bool, true, false, not, filter}
use Rattle.std.proofs.lemmas.List.{length-map}
use Rattle.history.specs.declared.asks.SpaceConfig.{SpaceConfig}
use Rattle.history.specs.declared.asks.Event.{Event}
use Rattle.history.specs.declared.places.Exported.{Exported}
use Rattle.history.specs.declared.places.Withdrawal.{Withdrawal}
use Rattle.history.specs.Limits.{reserved_units, starts, ends}
use Rattle.history.specs.Table.{is_effective, is_kept, table, place_of, places, withdrawn_objects, withdrawals_at_end, withdrawals}
use Rattle.history.proofs.GoneLaws.{withdrawals-push}
use Rattle.history.proofs.Partitions.{one_if}
use Rattle.history.proofs.RunningLaws.{reserved_units-push}
use Rattle.history.proofs.TableLaws.{places-push, table-place, withdrawn_objects-place}
use Rattle.dgc_server.specs.StandsForCalls.{LeaseTable}
use Rattle.export_table.specs.Table.{ExportTable}
use Rattle.space.specs.declared.runs.Run.{Run}
use Rattle.space.specs.Acts.{opens}
use Rattle.space.specs.Ahead.{HasRoom}
use Rattle.space.specs.Kept.{Keeps}
use Rattle.space.proofs.Quiet.{adds-length}
use Rattle.export_table.specs.StandsForHistory.{row_of}

pub some-or-not : {X : Type 0} (p : X → Bool) (xs : List X) → length (filter p xs) + length (filter (λ x. not (p x)) xs) ≡ length xs
some-or-not p [] = refl
some-or-not {X} p (x ∷ xs) = go (p x) (some-or-not p xs)
  where
    go : (b : Bool) → length (filter p xs) + length (filter (λ y. not (p y)) xs) ≡ length xs →
        length (cond b (x ∷ filter p xs) (filter p xs)) + length (cond (not b) (x ∷ filter (λ y. not (p y)) xs) (filter (λ y. not (p y)) xs)) ≡ length (x ∷ xs)
    go true e = omega (arith, e)
    go false e = omega (arith, e)

-- The running calls after one more event.
runs-next : (config : SpaceConfig) (events : List Event) (e : Event) (leases leases' : LeaseTable) (x y : ExportTable) (runs runs' : List Run) (withdrawn withdrawn' : List Withdrawal) (reported opened used moment reported' opened' used' moment' : ℕ) →
    Keeps config events leases x runs withdrawn reported opened used moment → Keeps config (events ++ e ∷ []) leases' y runs' withdrawn' reported' opened' used' moment' →
    length runs' + one_if (ends (place_of config (places config events) e)) ≡ length runs + one_if (starts (place_of config (places config events) e))
runs-next config events e leases leases' x y runs runs' withdrawn withdrawn' reported opened used moment reported' opened' used' moment' k l =
    let before = k.stands.runs_stand.all in
    let after : length runs' ≡ reserved_units (place_of config (places config events) e ∷ places config events) = l.stands.runs_stand.all ∙ ap reserved_units (places-push config events e) in
    let push = reserved_units-push config events e in
    omega (arith, before, after, push)

-- The exported objects and the withdrawals after one more event: each that was exported, or is now, is one or the other.
objects-next : (config : SpaceConfig) (events : List Event) (e : Event) (leases leases' : LeaseTable) (x y : ExportTable) (runs runs' : List Run) (withdrawn withdrawn' : List Withdrawal) (reported opened used moment reported' opened' used' moment' : ℕ) →
    Keeps config events leases x runs withdrawn reported opened used moment → Keeps config (events ++ e ∷ []) leases' y runs' withdrawn' reported' opened' used' moment' →
    length withdrawn' + length y.rows ≡ length withdrawn + length x.rows + length (place_of config (places config events) e).exported_here
objects-next config events e leases leases' x y runs runs' withdrawn_before withdrawn' reported opened used moment reported' opened' used' moment' k l =
    let all : List Exported = table config (places config events) ++ (place_of config (places config events) e).exported_here in
    let kept : Exported → Bool = is_kept config (place_of config (places config events) e ∷ places config events) in
    let rows_before : length x.rows ≡ length (table config (places config events)) = ap length k.stands.rows_are ∙ length-map (table config (places config events)) (row_of (places config events)) in
    let rows_after : length y.rows ≡ length (filter kept all) =
    ap length l.stands.rows_are ∙ length-map (table config (places config (events ++ e ∷ []))) (row_of (places config (events ++ e ∷ [])))
    ∙ ap (λ h. length (table config h)) (places-push config events e) ∙ ap length (table-place config (places config events) e) in
    let goes_before : length withdrawn_before ≡ length (withdrawals config (places config events)) = ap length k.stands.withdrawn_are in
    let goes_now : length (withdrawals_at_end config (place_of config (places config events) e ∷ places config events)) ≡ length (filter (λ o. not (kept o)) all) =
    length-map (withdrawn_objects config (place_of config (places config events) e ∷ places config events)) (λ (o : Exported). record { object = o.id; place = (place_of config (places config events) e).index })
    ∙ ap length (withdrawn_objects-place config (places config events) e) in
    let goes_after : length withdrawn' ≡ length (withdrawals config (places config events)) + length (filter (λ o. not (kept o)) all) =
    ap length (l.stands.withdrawn_are ∙ ap (withdrawals config) (places-push config events e) ∙ withdrawals-push config (place_of config (places config events) e) (places config events))
    ∙ length-append (withdrawals config (places config events)) (withdrawals_at_end config (place_of config (places config events) e ∷ places config events))
    ∙ ap (λ n. length (withdrawals config (places config events)) + n) goes_now in
    let both = some-or-not kept all in
    let sum = length-append (table config (places config events)) (place_of config (places config events) e).exported_here in
    omega (arith, rows_before, rows_after, goes_before, goes_after, both, sum)

at-most-one : (b : Bool) → one_if b ≤ 1
unfolding one_if
at-most-one true = omega arith
at-most-one false = omega arith

-- THE ROOM after an event, by what there was of it before.
pub room-next : (config : SpaceConfig) (events events' : List Event) (e : Event) (leases leases' : LeaseTable) (x y : ExportTable) (runs runs' : List Run) (withdrawn withdrawn' : List Withdrawal) (reported opened used moment reported' opened' used' moment' objects events_room withdrawn_room : ℕ) (effective : Bool) → effective ≡ is_effective config (places config events) e.by e.ask →
    Keeps config events leases x runs withdrawn reported opened used moment → Keeps config events' leases' y runs' withdrawn' reported' opened' used' moment' → events' ≡ events ++ e ∷ [] →
    length x.rows + opens effective e.ask ≤ objects → length events' + length runs' ≤ events_room → length withdrawn + objects ≤ withdrawn_room → HasRoom events' events_room runs' withdrawn' withdrawn_room y
room-next config events events' e leases leases' x y runs runs' withdrawn withdrawn' reported opened used moment reported' opened' used' moment' objects events_room withdrawn_room effective f k l ev few er wr =
    let P : List Event → Type 0 = λ es. Keeps config es leases' y runs' withdrawn' reported' opened' used' moment' in
    let all = objects-next config events e leases leases' x y runs runs' withdrawn withdrawn' reported opened used moment reported' opened' used' moment' k (subst P ev l) in
    let adds = adds-length config (places config events) e ∙ ap (λ v. opens v e.ask) (sym f) in
    record { ends = er; withdrawals = omega (arith, all, adds, few, wr) }

-- One more call runs after an event, at most.
pub room-turned : (config : SpaceConfig) (events events' : List Event) (e : Event) (leases leases' : LeaseTable) (x y : ExportTable) (runs runs' : List Run) (withdrawn withdrawn' : List Withdrawal) (reported opened used moment reported' opened' used' moment' objects events_room withdrawn_room : ℕ) (effective : Bool) → effective ≡ is_effective config (places config events) e.by e.ask →
    Keeps config events leases x runs withdrawn reported opened used moment → Keeps config events' leases' y runs' withdrawn' reported' opened' used' moment' → events' ≡ events ++ e ∷ [] →
    length x.rows + opens effective e.ask ≤ objects → length events + length runs + 2 ≤ events_room → length withdrawn + objects ≤ withdrawn_room → HasRoom events' events_room runs' withdrawn' withdrawn_room y
room-turned config events events' e leases leases' x y runs runs' withdrawn withdrawn' reported opened used moment reported' opened' used' moment' objects events_room withdrawn_room effective f k l ev few er wr =
    let P : List Event → Type 0 = λ es. Keeps config es leases' y runs' withdrawn' reported' opened' used' moment' in
    let calls = runs-next config events e leases leases' x y runs runs' withdrawn withdrawn' reported opened used moment reported' opened' used' moment' k (subst P ev l) in
    let one = at-most-one (starts (place_of config (places config events) e)) in
    let longer : length events' ≡ length events + 1 = ap length ev ∙ length-append events (e ∷ []) in
    let within : length events' + length runs' ≤ events_room = omega (arith, calls, one, longer, er) in
    room-next config events events' e leases leases' x y runs runs' withdrawn withdrawn' reported opened used moment reported' opened' used' moment' objects events_room withdrawn_room effective f k l ev few within wr

-- What was made of room does not matter to what is refused.
pub room-grown : (events events' : List Event) (runs runs' : List Run) (withdrawn withdrawn' : List Withdrawal) (x y : ExportTable) (events_room withdrawn_room events_room' withdrawn_room' : ℕ) →
    HasRoom events events_room runs withdrawn withdrawn_room x → events' ≡ events → runs' ≡ runs → withdrawn' ≡ withdrawn → y ≡ record x { room = y.room } →
    events_room ≤ events_room' → withdrawn_room ≤ withdrawn_room' → HasRoom events' events_room' runs' withdrawn' withdrawn_room' y
room-grown events events' runs runs' withdrawn withdrawn' x y events_room withdrawn_room events_room' withdrawn_room' r ev ru wi ex er wr =
    let a = ap length ev in let b = ap length ru in let c = ap length wi in let d = ap (λ (t : ExportTable). length t.rows) ex in
    let ends = r.ends in let goes = r.withdrawals in
    record { ends = omega (arith, a, b, ends, er); withdrawals = omega (arith, c, d, goes, wr) }

-- No event, and no room.
pub room-nothing : (events : List Event) (runs : List Run) (withdrawn : List Withdrawal) (x : ExportTable) (events_room withdrawn_room : ℕ) → events ≡ [] → runs ≡ [] → withdrawn ≡ [] → x.rows ≡ [] → HasRoom events events_room runs withdrawn withdrawn_room x
room-nothing events runs withdrawn x events_room withdrawn_room ev ru wi ex =
    let a = ap length ev in let b = ap length ru in let c = ap length wi in let d = ap length ex in
    record { ends = omega (arith, a, b); withdrawals = omega (arith, c, d) }

-- There are not too many running calls.
pub few-calls : (config : SpaceConfig) (events : List Event) (leases : LeaseTable) (exports : ExportTable) (runs : List Run) (withdrawn : List Withdrawal) (reported opened used moment : ℕ) → Keeps config events leases exports runs withdrawn reported opened used moment → length runs < 2 ^ 31
few-calls config events leases exports runs withdrawn reported opened used moment k = let all = k.stands.runs_stand.all in let few = k.stands.within.calls in omega (arith, all, few)
