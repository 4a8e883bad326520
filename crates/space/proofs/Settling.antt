-- After each event every exported object is kept, so that at the next one only an object in doubt can go.
use Rattle.std.proofs.Common.{◌≡◌, ℕ, ◌≤◌, inl, inr, List, [], ◌∷◌, ◌++◌, refl, ap, sym, subst, ◌∙◌, max, arith, Option}
use Rattle.std.specs.Prelude.{Bool, true, false, ◌||◌}
use Rattle.std.specs.List.{list_all, AllByRecursion}
use Rattle.std.proofs.lemmas.Bool.{and_from, or_left, or_right, or_cases}
use Rattle.object_ids.specs.declared.ids.ObjId.{ObjId}
use Rattle.history.specs.declared.asks.SpaceConfig.{SpaceConfig}
use Rattle.history.specs.declared.asks.Event.{Event}
use Rattle.history.specs.declared.asks.Ask.{Ask}
use Rattle.history.specs.declared.calls.Call.{Call}
use Rattle.history.specs.declared.places.Exported.{Exported}
use Rattle.history.specs.declared.places.Withdrawal.{Withdrawal}
use Rattle.history.specs.LeaseCalls.{call_with, lease_calls}
use Rattle.history.specs.Leases.{is_held}
use Rattle.history.specs.Places.{History, has, now, id_at}
use Rattle.history.specs.Table.{is_kept, table, places}
use Rattle.history.proofs.ListLemmas.{every-two, list_all-same}
use Rattle.history.proofs.NumberLaws.{has-self}
use Rattle.dgc_server.specs.StandsForCalls.{LeaseTable}
use Rattle.export_table.specs.declared.rows.Export.{Export}
use Rattle.export_table.specs.declared.waits.Wait.{Wait}
use Rattle.export_table.specs.ExportRows.{is_pinned, is_among, is_row_kept, held_by}
use Rattle.export_table.specs.StandsForHistory.{AreWaits, WaitsStand, reference_of, end_of, row_of, rows_of}
use Rattle.export_table.specs.Table.{ExportTable}
use Rattle.export_table.specs.Waits.{is_awaited, ended_waits, objects}
use Rattle.export_table.proofs.KeptLaws.{rows-are-kept}
use Rattle.space.specs.declared.runs.Run.{Run}
use Rattle.space.specs.Acts.{acted_exports, returned_by}
use Rattle.space.specs.Doubts.{taken_by, AreInDoubt}
use Rattle.space.specs.Withdrawing.{GoesAmong}
use Rattle.space.specs.Kept.{live_calls}
use Rattle.space.proofs.Acting.{stood_for}
use Rattle.space.proofs.Doubting.{among, awaited-later, waits-stay, holds-stay, is_safe, safe-before, safe-after, safe-more, three, weaken}
use Rattle.space.proofs.Holding.{held-alike}
use Rattle.space.proofs.Keeping.{told_calls}
use Rattle.space.proofs.LiveLaws.{is_held-live}
use Rattle.space.proofs.Named.{passing}
use Rattle.space.proofs.TurnLaws.{HasActed, is-acted}

-- ---- each is kept

kept-at-end : (config : SpaceConfig) (h : History) → AllByRecursion (λ x. is_kept config h x ≡ true) (table config h)
unfolding table
kept-at-end config [] = tt
kept-at-end config (p ∷ before) = passing (is_kept config (p ∷ before)) (table config before ++ p.exported_here)

rows-all : (p : Export → Bool) (h : History) (xs : List Exported) → AllByRecursion (λ x. p (row_of h x) ≡ true) xs → list_all p (rows_of h xs) ≡ true
rows-all p h [] a = refl
rows-all p h (x ∷ xs) a = and_from (p (row_of h x)) (list_all p (rows_of h xs)) a.0 (rows-all p h xs a.1)

-- AFTER EACH EVENT every exported object is kept.
pub all-kept : (config : SpaceConfig) (events : List Event) (waits : List Wait) → AreWaits config.ack_ms (now (places config events)) (places config events) waits →
    list_all (is_row_kept (now (places config events)) (held_by config.lease_ms (now (places config events)) (live_calls (table config (places config events)) (lease_calls (places config events)))) waits)
    (rows_of (places config events) (table config (places config events))) ≡ true
all-kept config events waits s =
    rows-all (is_row_kept (now h) (held_by config.lease_ms (now h) (live_calls (table config h) (lease_calls h))) waits) h (table config h)
    (every-two (λ x. has (table config h) x.id ≡ true) (λ x. is_kept config h x ≡ true)
    (λ x. is_row_kept (now h) (held_by config.lease_ms (now h) (live_calls (table config h) (lease_calls h))) waits (row_of h x) ≡ true)
    (λ x there kept.
    ap (λ v. (is_pinned (row_of h x) || is_awaited (now h) x.id waits) || v) (sym (is_held-live (table config h) x.id config.lease_ms (now h) (lease_calls h) there))
    ∙ rows-are-kept config events waits x s ∙ kept)
    (table config h) (has-self (table config h)) (kept-at-end config h))
  where
    h : History
    h = places config events

-- ---- at the next event

-- What is kept before it is kept after it, or in doubt.
settles : (x : ExportTable) (stood : Option ObjId) (effective : Bool) (a : Ask) (names : ObjId → Bool) (lease m t : ℕ) (calls : List Call) (os : List ObjId) → 1 ≤ x.ack → 1 ≤ lease →
    ((o : ObjId) → is_held lease m calls o ≡ true → is_held lease t calls o ≡ false → among os o ≡ true) →
    ((o : ObjId) → among (objects (ended_waits t x.waits)) o ≡ true → among os o ≡ true) →
    ((o : ObjId) → among (taken_by x.waits (id_at x.space x.added) stood (returned_by x.space x.added x.rows stood effective a) a) o ≡ true → among os o ≡ true) →
    list_all (is_row_kept m (held_by lease m calls) x.waits) x.rows ≡ true →
    list_all (is_safe os (λ o. is_awaited t o (acted_exports stood effective t a x).waits || is_held lease t (call_with names t a ++ calls) o)) (acted_exports stood effective t a x).rows ≡ true
settles x stood effective a names lease m t calls os some_ack some_lease freed ended taken kept =
    safe-after os test stood effective t a x taken
    (safe-before os (λ o. is_awaited m o x.waits || is_held lease m calls o) test safe x.rows
    (list_all-same (λ y. is_pinned y || (is_awaited m y.id x.waits || is_held lease m calls y.id)) (is_row_kept m (held_by lease m calls) x.waits)
    (λ y. sym (three (is_pinned y) (is_awaited m y.id x.waits) (is_held lease m calls y.id))) x.rows ∙ kept))
  where
    fresh : ObjId
    fresh = id_at x.space x.added

    returned : List ObjId
    returned = returned_by x.space x.added x.rows stood effective a

    reported : List Call
    reported = call_with names t a ++ calls

    after : List Wait
    after = (acted_exports stood effective t a x).waits

    test : ObjId → Bool
    test o = is_awaited t o after || is_held lease t reported o

    held_on : (o : ObjId) → is_held lease m calls o ≡ true → (b : Bool) → is_held lease t calls o ≡ b → (among os o || test o) ≡ true
    held_on o held false e = or_left (among os o) (test o) (freed o held e)
    held_on o held true e =
        elim (or_cases (among (taken_by x.waits fresh stood returned a) o) (is_held lease t reported o) (holds-stay names lease t a calls x.waits fresh stood returned o some_lease e)) [
          | inl gone ↦ or_left (among os o) (test o) (taken o gone)
          | inr stays ↦ or_right (among os o) (test o) (or_right (is_awaited t o after) (is_held lease t reported o) stays)
        ]

    safe : (o : ObjId) → (is_awaited m o x.waits || is_held lease m calls o) ≡ true → (among os o || test o) ≡ true
    safe o h = elim (or_cases (is_awaited m o x.waits) (is_held lease m calls o) h) [
      | inl awaited ↦ elim (or_cases (among (objects (ended_waits t x.waits)) o) (is_awaited t o x.waits) (awaited-later m t o x.waits awaited)) [
        | inl gone ↦ or_left (among os o) (test o) (ended o gone)
        | inr still ↦ elim (or_cases (among (taken_by x.waits fresh stood returned a) o) (is_awaited t o after) (waits-stay stood effective t a x fresh returned o some_ack still)) [
          | inl gone ↦ or_left (among os o) (test o) (taken o gone)
          | inr stays ↦ or_right (among os o) (test o) (or_left (is_awaited t o after) (is_held lease t reported o) stays)
        ]
      ]
      | inr held ↦ held_on o held (is_held lease t calls o) refl
    ]

-- ONLY AN OBJECT IN DOUBT can go at an event.
pub settled-but : (config : SpaceConfig) (events : List Event) (e : Event) (leases leases1 : LeaseTable) (exports t : ExportTable) (runs : List Run) (withdrawn : List Withdrawal) (reported opened used moment : ℕ) (effective : Bool) →
    HasActed config events e leases leases1 exports t runs withdrawn reported opened used moment effective → (time : ℕ) (os : List ObjId) → time ≡ max e.moment moment →
    AreInDoubt leases time exports.waits (taken_by exports.waits (id_at config.uid opened) (stood_for (places config events) e.ask) (returned_by config.uid opened exports.rows (stood_for (places config events) e.ask) effective e.ask) e.ask) os →
    GoesAmong leases1 t time os
settled-but config events e leases leases1 exports t runs withdrawn reported opened used moment effective a time os at doubt lease m calls s =
    let k = a.asked.keeps in
    let d = is-acted config events e leases leases1 exports t runs withdrawn reported opened used moment effective a in
    let T : ℕ = max e.moment (now (places config events)) in
    let same : time ≡ T = at ∙ ap (max e.moment) k.stands.moment_is in
    let live : List Call = live_calls (table config (places config events)) (lease_calls (places config events)) in
    let stood : Option ObjId = stood_for (places config events) e.ask in
    let W : ℕ → Type 0 = λ n. WaitsStand reference_of end_of config.ack_ms n (places config events) exports.waits in
    let acts : t ≡ acted_exports stood effective T e.ask exports = a.act ∙ ap (λ i. acted_exports stood effective i e.ask exports) (ap (max e.moment) k.stands.moment_is) in
    let ack : 1 ≤ exports.ack = (let is = k.stands.ack_is in let some = k.durations.some_ack in omega (arith, is, some)) in
    let moment_same : m ≡ T = sym s.is_moment ∙ d.leases_stand.is_moment in
    let later : max time m ≡ T = omega (arith, same, moment_same) in
    let past : max time moment ≡ T = omega (arith, at, same) in
    let kept : list_all (is_row_kept (now (places config events)) (held_by config.lease_ms (now (places config events)) live) exports.waits) exports.rows ≡ true =
    ap (list_all (is_row_kept (now (places config events)) (held_by config.lease_ms (now (places config events)) live) exports.waits)) k.stands.rows_are
    ∙ all-kept config events exports.waits (subst W k.stands.moment_is k.stands.waits_stand) in
    let freed : (o : ObjId) → is_held config.lease_ms (now (places config events)) live o ≡ true → is_held config.lease_ms T live o ≡ false → among os o ≡ true =
    (λ o held none. doubt.freed config.lease_ms moment live k.stands.leases_stand o (ap (λ i. is_held config.lease_ms i live o) k.stands.moment_is ∙ held) (ap (λ i. is_held config.lease_ms i live o) past ∙ none)) in
    let ended : (o : ObjId) → among (objects (ended_waits T exports.waits)) o ≡ true → among os o ≡ true = (λ o h. doubt.ended o (ap (λ i. among (objects (ended_waits i exports.waits)) o) same ∙ h)) in
    let names : taken_by exports.waits (id_at config.uid opened) stood (returned_by config.uid opened exports.rows stood effective e.ask) e.ask ≡ taken_by exports.waits (id_at exports.space exports.added) stood (returned_by exports.space exports.added exports.rows stood effective e.ask) e.ask =
    ap (λ u. taken_by exports.waits (id_at u opened) stood (returned_by u opened exports.rows stood effective e.ask) e.ask) (sym k.stands.space_is)
    ∙ ap (λ i. taken_by exports.waits (id_at exports.space i) stood (returned_by exports.space i exports.rows stood effective e.ask) e.ask) (sym k.stands.added_is) in
    let taken : (o : ObjId) → among (taken_by exports.waits (id_at exports.space exports.added) stood (returned_by exports.space exports.added exports.rows stood effective e.ask) e.ask) o ≡ true → among os o ≡ true =
    (λ o h. doubt.taken o (ap (λ l. among l o) names ∙ h)) in
    let safe = settles exports stood effective e.ask (has (table config (places config events))) config.lease_ms (now (places config events)) T live os ack k.durations.some_lease freed ended taken kept in
    let more = safe-more os (λ o. is_awaited T o (acted_exports stood effective T e.ask exports).waits || is_held config.lease_ms T (told_calls config events e) o)
    (λ o. is_awaited T o (acted_exports stood effective T e.ask exports).waits || held_by lease (max time m) calls o)
    (λ o h. weaken (is_awaited T o (acted_exports stood effective T e.ask exports).waits) (is_held config.lease_ms T (told_calls config events e) o) (held_by lease (max time m) calls o)
    (λ held. held-alike config.lease_ms lease T m T (max time m) leases1 (told_calls config events e) calls o d.leases_stand s (omega arith) (omega arith) later held) h)
    (acted_exports stood effective T e.ask exports).rows safe in
    let G : ExportTable → Type 0 = λ y. list_all (λ x. is_among os x || is_row_kept T (held_by lease (max time m) calls) y.waits x) y.rows ≡ true in
    let N : ℕ → Type 0 = λ i. list_all (λ x. is_among os x || is_row_kept i (held_by lease (max time m) calls) t.waits x) t.rows ≡ true in
    subst N (sym same) (subst G (sym acts)
    (list_all-same (λ x. is_among os x || is_row_kept T (held_by lease (max time m) calls) (acted_exports stood effective T e.ask exports).waits x)
    (is_safe os (λ o. is_awaited T o (acted_exports stood effective T e.ask exports).waits || held_by lease (max time m) calls o))
    (λ x. ap (λ v. is_among os x || v) (three (is_pinned x) (is_awaited T x.id (acted_exports stood effective T e.ask exports).waits) (held_by lease (max time m) calls x.id)))
    (acted_exports stood effective T e.ask exports).rows ∙ more))

-- Of a table but for its room.
pub settled-roomy : (leases1 : LeaseTable) (t y : ExportTable) (time : ℕ) (os seen : List ObjId) → y ≡ record t { room = y.room } → seen ≡ os →
    GoesAmong leases1 t time os → GoesAmong leases1 y time seen
settled-roomy leases1 t y time os seen e se f =
    let P : ExportTable → Type 0 = λ x. GoesAmong leases1 x time os in
    let O : List ObjId → Type 0 = λ l. GoesAmong leases1 y time l in
    subst O (sym se) (subst P (sym e) f)
