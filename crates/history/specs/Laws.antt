-- What the definitions of a history, which go by its newest place, say of the whole history.
use Rattle.std.specs.Prelude.{◌≡◌, ℕ, ◌+◌, ◌<◌, ◌≤◌, ℤ, pos, ◌↔◌, Bool, true, not, List, [], ◌∷◌, length, reverse, ◌&&◌, ◌||◌, nat_lt, nat_le, filter, find, filter_map, map, is_none, Option, Some, option_and_then, option_map, unwrap_or, slice_get, sum_by, ◌==◌}
use Rattle.std.specs.List.{list_all, list_any}
use Rattle.object_ids.specs.declared.ids.Uid.{Uid}
use Rattle.object_ids.specs.declared.ids.ObjId.{ObjId}
use Rattle.history.specs.declared.asks.SpaceConfig.{SpaceConfig}
use Rattle.history.specs.declared.asks.Event.{Event}
use Rattle.history.specs.declared.places.Place.{Place}
use Rattle.history.specs.declared.places.Exported.{Exported}
use Rattle.history.specs.declared.places.Returned.{Returned}
use Rattle.history.specs.declared.calls.Call.{Call}
use Rattle.history.specs.Leases.{grant, lease_end, is_dirty}
use Rattle.history.specs.Lists.{distinct, option_any}
use Rattle.history.specs.Places.{History, has, ever_exported, id_at, exported_count}
use Rattle.history.specs.Running.{begins_call, ends_call, begins_any, ends_any, running_calls_by, running_calls, is_running}
use Rattle.history.specs.Awaiting.{returns, is_ack_of, awaits}
use Rattle.history.specs.Names.{name_bound, object_bound, is_unbind_of, changes_name, stands_for, names}
use Rattle.history.specs.Table.{is_kept, table, place_of, places, withdrawals}
use Rattle.history.specs.Replies.{is_abandon, gone_objects}

-- ---- the table: what was kept ever since its export

-- The prefixes of a history that are not empty, the whole history first.
abbrev pub prefixes : History → List History
prefixes [] = []
prefixes (p ∷ before) = (p ∷ before) ∷ prefixes before

-- An object is kept at every prefix of a history that has exported it.
abbrev pub is_kept_since_export : (History → Exported → Bool) → History → Exported → Bool
is_kept_since_export kept h x = list_all (λ g. not (has (ever_exported g) x.id) || kept g x) (prefixes h)

-- The table has those of all objects ever exported that are kept at every prefix from their export on.
abbrev pub TableIsKept : SpaceConfig → List Event → Type 0
TableIsKept config events =
    table config (places config events) ≡ filter (is_kept_since_export (is_kept config) (places config events)) (ever_exported (places config events))

-- The next object is the k-th, from 0, where k objects were exported before it.
abbrev pub NextIsCounted : History → Type 0
NextIsCounted h = exported_count h ≡ length (ever_exported h)

-- The k-th object, from 0, has the identifier of this number: none is given twice.
abbrev pub IdsAreInOrder : SpaceConfig → List Event → Type 0
IdsAreInOrder config events = (k : ℕ) (x : Exported) → slice_get (ever_exported (places config events)) k ≡ Some x → x.id ≡ id_at config.uid k

-- ---- what awaits: since the last return

-- The return is acknowledged at a place after p.
abbrev pub is_acknowledged : History → Uid → Place → Bool
is_acknowledged h u p = list_any (λ q. nat_lt p.index q.index && is_ack_of u q.event.ask) h

-- Since the last place that returned the reference the time to acknowledge has not ended at the moment t, and no acknowledgement has
-- come.
abbrev pub awaits_since_return : ℕ → ℕ → History → Returned → Bool
awaits_since_return ack t h r = option_any (λ p. nat_lt t (p.moment + ack) && not (is_acknowledged h r.uid p)) (find (returns r) h)

abbrev pub AwaitsSinceReturn : SpaceConfig → List Event → Type 0
AwaitsSinceReturn config events =
    (ack t : ℕ) (r : Returned) → awaits ack t (places config events) r ≡ awaits_since_return ack t (places config events) r

-- ---- leases: the greatest end of what was granted

-- No call shortens the lease of its client.
abbrev pub LeaseNeverFalls : Type 0
LeaseNeverFalls = (lease : ℕ) (x : Call) (own : List Call) → lease_end lease own ≤ lease_end lease (x ∷ own)

-- After a dirty the lease lasts at least as long as the dirty was granted.
abbrev pub LeaseLastsAsGranted : Type 0
LeaseLastsAsGranted =
    (lease : ℕ) (x : Call) (own : List Call) → is_dirty x ≡ true → x.moment + grant lease x.asked ≤ lease_end lease (x ∷ own)

-- No more than the configured lease is granted, and where it is asked that one.
abbrev pub GrantIsWithin : Type 0
GrantIsWithin = (lease : ℕ) (asked : ℤ) → grant lease asked ≤ lease

abbrev pub ConfiguredIsGranted : Type 0
ConfiguredIsGranted = (lease : ℕ) → grant lease (pos lease) ≡ lease

-- ---- names: by their last changes

-- The last effective Bind, Rebind or Unbind of the name.
abbrev pub last_change : History → List ℕ → Option Place
last_change h n = find (changes_name n) h

-- A name stands for the object of that one, or for nothing if that is an Unbind.
abbrev pub StandsForLast : History → Type 0
StandsForLast h = (n : List ℕ) → stands_for h n ≡ option_and_then (λ p. object_bound p.event.ask) (last_change h n)

-- An effective Unbind of the name stands at a place after p.
abbrev pub is_unbound_after : History → List ℕ → Place → Bool
is_unbound_after h n p = list_any (λ q. nat_lt p.index q.index && q.effective && is_unbind_of n q.event.ask) h

-- The place p begins a name: it is an effective Bind or Rebind of a name that stands for nothing, and no effective Unbind of the
-- name comes after it.
abbrev pub begins_name : History → Place → Bool
begins_name h p = p.effective && is_none p.name_stood_for && option_any (λ n. not (is_unbound_after h n p)) (name_bound p.event.ask)

-- The names stand in the order of the places that begin them.
abbrev pub NamesInOrder : SpaceConfig → List Event → Type 0
NamesInOrder config events =
    names (places config events) ≡ filter_map (λ p. name_bound p.event.ask) (filter (begins_name (places config events)) (reverse (places config events)))

-- What a name stands for is an object of the table: the name keeps it there.
abbrev pub NamedIsExported : SpaceConfig → List Event → Type 0
NamedIsExported config events =
    (n : List ℕ) (o : ObjId) → stands_for (places config events) n ≡ Some o → has (table config (places config events)) o ≡ true

-- ---- running calls: effective begins less effective ends

abbrev pub RunningIsCounted : SpaceConfig → List Event → Type 0
RunningIsCounted config events =
    (by : ℕ) (o : ObjId) →
    running_calls_by (places config events) by o + length (filter (ends_call by o) (places config events)) ≡ length (filter (begins_call by o) (places config events))

-- The connections that asked, each once.
abbrev pub connections : History → List ℕ
connections h = distinct (λ a b. a == b) (map (λ p. p.event.by) h)

-- What all connections run is the sum of what each runs.
abbrev pub RunningIsSummed : SpaceConfig → List Event → Type 0
RunningIsSummed config events =
    (o : ObjId) → running_calls (places config events) o ≡ sum_by (λ by. running_calls_by (places config events) by o) (connections (places config events))

abbrev pub AllRunningIsCounted : SpaceConfig → List Event → Type 0
AllRunningIsCounted config events =
    (o : ObjId) →
    running_calls (places config events) o + length (filter (ends_any o) (places config events)) ≡ length (filter (begins_any o) (places config events))

-- A connection runs a call of the object.
abbrev pub SomeConnectionRuns : History → ObjId → Type 0
SomeConnectionRuns h o = (c : ℕ) × 0 < running_calls_by h c o

abbrev pub RunningIsSome : SpaceConfig → List Event → Type 0
RunningIsSome config events = (o : ObjId) → (is_running (places config events) o ≡ true) ↔ SomeConnectionRuns (places config events) o

-- ---- what a turn tells as gone: what was withdrawn after the last event that is no Abandon

-- The place after the last event that is no Abandon.
abbrev pub first_unreported : History → ℕ
first_unreported h = unwrap_or (option_map (λ p. p.index + 1) (find (λ p. not (is_abandon p.event.ask)) h)) 0

-- The objects that a history withdrew from this place on, in order.
abbrev pub withdrawn_from : ℕ → SpaceConfig → History → List ObjId
withdrawn_from place config h = map (λ w. w.object) (filter (λ w. nat_le place w.place) (withdrawals config h))

abbrev pub GoneSinceLast : SpaceConfig → List Event → Event → Type 0
GoneSinceLast config events e =
    gone_objects config (places config events) e ≡ withdrawn_from (first_unreported (places config events)) config (place_of config (places config events) e ∷ places config events)
