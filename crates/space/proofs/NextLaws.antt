-- The table, the live calls and what is kept, from one event to the next, generic in the ask.
use Rattle.std.proofs.Common.{◌≡◌, ℕ, List, [], ◌∷◌, ◌++◌, length, refl, ap, sym, subst, ◌∙◌, map, max}
use Rattle.std.specs.Prelude.{Bool, true, false, ◌||◌, nat_lt}
use Rattle.std.specs.List.{list_any, AllByRecursion}
use Rattle.std.proofs.lemmas.Bool.{or_left, or_right}
use Rattle.std.proofs.lemmas.List.Folds.{list_any-append}
use Rattle.object_ids.specs.declared.ids.ObjId.{ObjId}
use Rattle.object_ids.specs.Same.{same_id}
use Rattle.object_ids.proofs.Exact.{same_id-self}
use Rattle.history.specs.declared.asks.SpaceConfig.{SpaceConfig}
use Rattle.history.specs.declared.asks.Event.{Event}
use Rattle.history.specs.declared.calls.Call.{Call}
use Rattle.history.specs.declared.places.Exported.{Exported}
use Rattle.history.specs.declared.places.Returned.{Returned}
use Rattle.history.specs.Awaiting.{same_returned, awaits, is_awaited}
use Rattle.history.specs.LeaseCalls.{call_with, lease_calls}
use Rattle.history.specs.Leases.{is_naming, is_held}
use Rattle.history.specs.Names.{is_named}
use Rattle.history.specs.Places.{has, now, ever_exported}
use Rattle.history.specs.Replies.{ids, gone_objects}
use Rattle.history.specs.Running.{running_calls}
use Rattle.history.specs.Table.{is_kept_locally, is_kept, table, place_of, places, withdrawn_objects}
use Rattle.history.proofs.AlikeCalls.{AllAlike, is_held-alike}
use Rattle.history.proofs.AwaitingLaws.{is_awaited-members}
use Rattle.history.proofs.GoneLaws.{unreported_objects, gone_objects-push}
use Rattle.history.proofs.ListLemmas.{every-append, every-weaker}
use Rattle.history.proofs.KeptSince.{table-apart}
use Rattle.history.proofs.NumberLaws.{NumberedFrom-apart, adds-numbered, has-self, AllApart, table-exported}
use Rattle.history.proofs.RunningLaws.{is_running-calls}
use Rattle.history.proofs.TableLaws.{places-numbered, table-place, now-push, withdrawn_objects-place}
use Rattle.dgc_server.specs.Counts.{without_all}
use Rattle.space.specs.Kept.{live_calls}
use Rattle.space.proofs.LiveLaws.{IsNext, gone_of, live-push, reported-alike}
use Rattle.space.proofs.Named.{calls-names, naming-has, lease_calls-push}
use Rattle.export_table.proofs.ThereLaws.{old-not-new, new-not-old, not-exported-nowhere}
use Rattle.space.proofs.ObjectLaws.{named-there, awaited-there}

-- ---- the table is the next one

-- A list whose objects are apart, before another of other objects.
apart-append : (xs ys : List Exported) → AllApart xs → AllApart ys → ((y : ObjId) → has xs y ≡ true → has ys y ≡ false) → AllApart (xs ++ ys)
apart-append [] ys a b f = b
apart-append (x ∷ xs) ys a b f = (
  list_any-append (λ (z : Exported). same_id z.id x.id) xs ys ∙ rw (a.0, f x.id (or_left (same_id x.id x.id) (has xs x.id) (same_id-self x.id))) refl,
  apart-append xs ys a.1 b (λ y h. f y (or_right (same_id x.id y) (has xs y) h)),
)

pub table-all-apart : (config : SpaceConfig) (events : List Event) (e : Event) → AllApart (table config (places config events) ++ (place_of config (places config events) e).exported_here)
table-all-apart config events e =
    apart-append (table config (places config events)) (place_of config (places config events) e).exported_here
    (table-apart config events)
    (NumberedFrom-apart config.uid (length (ever_exported (places config events))) (place_of config (places config events) e).exported_here (adds-numbered config (places config events) e))
    (λ y h. old-not-new config events e y (table-exported config (places config events) y h))

pub is-next : (config : SpaceConfig) (events : List Event) (e : Event) →
    IsNext (table config (places config events)) (place_of config (places config events) e).exported_here (ever_exported (places config events)) (table config (place_of config (places config events) e ∷ places config events))
    (is_kept config (place_of config (places config events) e ∷ places config events))
is-next config events e = record {
  apart = table-all-apart config events e;
  old = λ y h. table-exported config (places config events) y h;
  new = λ y h. old-not-new config events e y h;
  next = table-place config (places config events) e;
}

-- ---- what leaves it

pub withdrawn-ids : (config : SpaceConfig) (events : List Event) (e : Event) →
    ids (withdrawn_objects config (place_of config (places config events) e ∷ places config events))
    ≡ gone_of (table config (places config events) ++ (place_of config (places config events) e).exported_here) (is_kept config (place_of config (places config events) e ∷ places config events))
withdrawn-ids config events e = ap ids (withdrawn_objects-place config (places config events) e)

-- WHAT A TURN TELLS as gone: what was still to be told, and what goes now.
pub gone-next : (config : SpaceConfig) (events : List Event) (e : Event) →
    gone_objects config (places config events) e
    ≡ unreported_objects config (places config events) ++ gone_of (table config (places config events) ++ (place_of config (places config events) e).exported_here) (is_kept config (place_of config (places config events) e ∷ places config events))
gone-next config events e = gone_objects-push config (places config events) e (places-numbered config events) ∙ ap (λ l. unreported_objects config (places config events) ++ l) (withdrawn-ids config events e)

-- ---- the live calls

-- THE LIVE CALLS after an event.
pub live-next : (config : SpaceConfig) (events : List Event) (e : Event) →
    live_calls (table config (place_of config (places config events) e ∷ places config events)) (lease_calls (place_of config (places config events) e ∷ places config events))
    ≡ map (without_all (gone_of (table config (places config events) ++ (place_of config (places config events) e).exported_here) (is_kept config (place_of config (places config events) e ∷ places config events))))
    (call_with (has (table config (places config events))) (max e.moment (now (places config events))) e.ask ++ live_calls (table config (places config events)) (lease_calls (places config events)))
live-next config events e =
    ap (live_calls (table config (place_of config (places config events) e ∷ places config events))) (lease_calls-push config (places config events) e)
    ∙ live-push (table config (places config events)) (place_of config (places config events) e).exported_here (ever_exported (places config events)) (table config (place_of config (places config events) e ∷ places config events))
    (is_kept config (place_of config (places config events) e ∷ places config events)) (is-next config events e) (max e.moment (now (places config events))) e.ask (lease_calls (places config events)) (calls-names (places config events))

-- ---- new objects were nowhere before

-- No call names one.
pub not-exported-named : (config : SpaceConfig) (events : List Event) (y : ObjId) → has (ever_exported (places config events)) y ≡ false → list_any (is_naming y) (lease_calls (places config events)) ≡ false
not-exported-named config events y h = go (list_any (is_naming y) (lease_calls (places config events))) refl
  where
    go : (b : Bool) → list_any (is_naming y) (lease_calls (places config events)) ≡ b → b ≡ false
    go false t = refl
    go true t = absurd (let there = naming-has (ever_exported (places config events)) y (lease_calls (places config events)) (calls-names (places config events)) t in cc)

-- No name stands for one, and no reference to one awaits.
pub not-there-named : (config : SpaceConfig) (events : List Event) (y : ObjId) → has (table config (places config events)) y ≡ false → is_named (places config events) y ≡ false
not-there-named config events y h = go (is_named (places config events) y) refl
  where
    go : (b : Bool) → is_named (places config events) y ≡ b → b ≡ false
    go false t = refl
    go true t = absurd (let there = named-there config events y t in cc)

pub not-there-awaits : (config : SpaceConfig) (events : List Event) (r : Returned) → has (table config (places config events)) r.object ≡ false → awaits config.ack_ms (now (places config events)) (places config events) r ≡ false
not-there-awaits config events r h = go (awaits config.ack_ms (now (places config events)) (places config events) r) refl
  where
    go : (b : Bool) → awaits config.ack_ms (now (places config events)) (places config events) r ≡ b → b ≡ false
    go false t = refl
    go true t = absurd (let there = awaited-there config events r t in cc)

-- ---- what is kept, before anything goes

-- The event's own call and the live calls say whether an object of the table, or a new one, is held.
reported-both : (config : SpaceConfig) (events : List Event) (e : Event) (o : ObjId) → has (ever_exported (places config events)) o ≡ has (table config (places config events)) o →
    AllAlike o (lease_calls (place_of config (places config events) e ∷ places config events))
    (call_with (has (table config (places config events))) (max e.moment (now (places config events))) e.ask ++ live_calls (table config (places config events)) (lease_calls (places config events)))
reported-both config events e o same =
    let P : List Call → Type 0 = λ l. AllAlike o l (call_with (has (table config (places config events))) (max e.moment (now (places config events))) e.ask ++ live_calls (table config (places config events)) (lease_calls (places config events))) in
    subst P (sym (lease_calls-push config (places config events) e))
    (reported-alike (table config (places config events)) (ever_exported (places config events)) o (max e.moment (now (places config events))) e.ask (lease_calls (places config events)) same
    (λ h. not-exported-named config events o (same ∙ h)))

pub held-next : (config : SpaceConfig) (events : List Event) (e : Event) (t : ℕ) →
    AllByRecursion (λ x. is_held config.lease_ms t (lease_calls (place_of config (places config events) e ∷ places config events)) x.id
    ≡ is_held config.lease_ms t (call_with (has (table config (places config events))) (max e.moment (now (places config events))) e.ask ++ live_calls (table config (places config events)) (lease_calls (places config events))) x.id)
    (table config (places config events) ++ (place_of config (places config events) e).exported_here)
held-next config events e t =
    every-append _ (table config (places config events)) (place_of config (places config events) e).exported_here
    (every-weaker (λ (x : Exported). has (table config (places config events)) x.id ≡ true) _
    (λ x h. one x (table-exported config (places config events) x.id h ∙ sym h)) (table config (places config events)) (has-self (table config (places config events))))
    (every-weaker (λ (x : Exported). has (place_of config (places config events) e).exported_here x.id ≡ true) _
    (λ x h. (let new = new-not-old config events e x.id h in one x (new ∙ sym (not-exported-nowhere config events x.id new)))) (place_of config (places config events) e).exported_here (has-self (place_of config (places config events) e).exported_here))
  where
    one : (x : Exported) → has (ever_exported (places config events)) x.id ≡ has (table config (places config events)) x.id →
        is_held config.lease_ms t (lease_calls (place_of config (places config events) e ∷ places config events)) x.id
        ≡ is_held config.lease_ms t (call_with (has (table config (places config events))) (max e.moment (now (places config events))) e.ask ++ live_calls (table config (places config events)) (lease_calls (places config events))) x.id
    one x same =
        is_held-alike x.id config.lease_ms t (lease_calls (place_of config (places config events) e ∷ places config events))
        (call_with (has (table config (places config events))) (max e.moment (now (places config events))) e.ask ++ live_calls (table config (places config events)) (lease_calls (places config events)))
        (reported-both config events e x.id same)

-- WHAT KEEPS AN OBJECT after an event, by how many calls of it run, by any list of the references that await, and by the calls that the
-- lease table was told before objects go.
pub kept-next : (config : SpaceConfig) (events : List Event) (e : Event) (waits : List Returned) →
    ((r : Returned) → list_any (same_returned r) waits ≡ awaits config.ack_ms (now (place_of config (places config events) e ∷ places config events)) (place_of config (places config events) e ∷ places config events) r) →
    AllByRecursion (λ x. is_kept config (place_of config (places config events) e ∷ places config events) x
    ≡ ((x.pinned || is_named (place_of config (places config events) e ∷ places config events) x.id || nat_lt 0 (running_calls (place_of config (places config events) e ∷ places config events) x.id))
    || list_any (λ r. same_id r.object x.id) waits
    || is_held config.lease_ms (max e.moment (now (places config events)))
    (call_with (has (table config (places config events))) (max e.moment (now (places config events))) e.ask ++ live_calls (table config (places config events)) (lease_calls (places config events))) x.id))
    (table config (places config events) ++ (place_of config (places config events) e).exported_here)
unfolding is_kept is_kept_locally
kept-next config events e waits await =
    every-weaker _ _ (λ x held.
    ap (λ v. (x.pinned || is_named (place_of config (places config events) e ∷ places config events) x.id || v)
    || is_awaited config.ack_ms (now (place_of config (places config events) e ∷ places config events)) (place_of config (places config events) e ∷ places config events) x.id
    || is_held config.lease_ms (now (place_of config (places config events) e ∷ places config events)) (lease_calls (place_of config (places config events) e ∷ places config events)) x.id)
    (is_running-calls (place_of config (places config events) e ∷ places config events) x.id)
    ∙ ap (λ v. (x.pinned || is_named (place_of config (places config events) e ∷ places config events) x.id || nat_lt 0 (running_calls (place_of config (places config events) e ∷ places config events) x.id))
    || v || is_held config.lease_ms (now (place_of config (places config events) e ∷ places config events)) (lease_calls (place_of config (places config events) e ∷ places config events)) x.id)
    (is_awaited-members config.ack_ms (now (place_of config (places config events) e ∷ places config events)) (place_of config (places config events) e ∷ places config events) x.id waits await)
    ∙ ap (λ n. (x.pinned || is_named (place_of config (places config events) e ∷ places config events) x.id || nat_lt 0 (running_calls (place_of config (places config events) e ∷ places config events) x.id))
    || list_any (λ r. same_id r.object x.id) waits || is_held config.lease_ms n (lease_calls (place_of config (places config events) e ∷ places config events)) x.id)
    (now-push config (places config events) e)
    ∙ ap (λ v. (x.pinned || is_named (place_of config (places config events) e ∷ places config events) x.id || nat_lt 0 (running_calls (place_of config (places config events) e ∷ places config events) x.id))
    || list_any (λ r. same_id r.object x.id) waits || v) held)
    (table config (places config events) ++ (place_of config (places config events) e).exported_here)
    (held-next config events e (max e.moment (now (places config events))))
