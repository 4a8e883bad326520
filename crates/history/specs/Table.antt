-- The collector's table (Java RMI Specification, chapter 9), and the places of a list of events, which are defined together with it.
use Rattle.std.specs.Prelude.{ℕ, max, Bool, true, false, not, List, [], ◌∷◌, ◌++◌, length, reverse, ◌&&◌, ◌||◌, nat_lt, filter, is_some, is_none, map, if◌then◌else◌, option_and_then, option_to_list}
use Rattle.object_ids.specs.declared.ids.ObjId.{ObjId}
use Rattle.history.specs.declared.asks.SpaceConfig.{SpaceConfig}
use Rattle.history.specs.declared.asks.Event.{Event}
use Rattle.history.specs.declared.asks.Ask.{Ask}
use Rattle.history.specs.declared.asks.Ask.TheVariants.{Open, Begin, Finish, Abandon, Bind, Rebind, Unbind, Lookup}
use Rattle.history.specs.declared.places.Place.{Place}
use Rattle.history.specs.declared.places.Exported.{Exported}
use Rattle.history.specs.declared.places.Withdrawal.{Withdrawal}
use Rattle.history.specs.Places.{History, has, now, exported_count, exported_from}
use Rattle.history.specs.Running.{running_calls_by, is_running}
use Rattle.history.specs.Leases.{is_held}
use Rattle.history.specs.LeaseCalls.{lease_calls}
use Rattle.history.specs.Awaiting.{is_awaited}
use Rattle.history.specs.Names.{stands_for, is_named, name_in}

-- An object is kept locally: it was opened pinned, a name stands for it, or some connection runs a call of it.
unfoldable pub is_kept_locally : History → Exported → Bool
is_kept_locally h x = x.pinned || is_named h x.id || is_running h x.id

-- An object is kept at the end of a history: it is kept locally, a reference to it awaits, or some client holds it.
unfoldable pub is_kept : SpaceConfig → History → Exported → Bool
is_kept config h x = is_kept_locally h x || is_awaited config.ack_ms (now h) h x.id || is_held config.lease_ms (now h) (lease_calls h) x.id

-- The table: those objects of the table before the newest place, and of those that this place exports, that are kept now.
unfoldable pub table : SpaceConfig → History → List Exported
table config [] = []
table config (p ∷ before) = filter (is_kept config (p ∷ before)) (table config before ++ p.exported_here)

-- Whether an ask of a connection is effective after a history.
unfoldable pub is_effective : SpaceConfig → History → ℕ → Ask → Bool
is_effective config h by (Begin object) = has (table config h) object
is_effective config h by (Finish object made listed uid) = nat_lt 0 (running_calls_by h by object)
is_effective config h by (Abandon object) = nat_lt 0 (running_calls_by h by object)
is_effective config h by (Bind name object) = has (table config h) object && is_none (stands_for h name)
is_effective config h by (Rebind name object) = has (table config h) object
is_effective config h by (Unbind name) = is_some (stands_for h name)
is_effective config h by (Lookup name uid) = is_some (stands_for h name)
is_effective config h by _ = true

-- The objects that an effective ask exports after a history: an Open one, a Finish one for each entry of `made`.
unfoldable pub exports : SpaceConfig → History → Ask → List Exported
exports config h (Open kind pinned) = exported_from config.uid (exported_count h) pinned (kind ∷ [])
exports config h (Finish object made listed uid) = exported_from config.uid (exported_count h) false made
exports config h _ = []

-- The objects to which an effective ask returns references: a Finish to its new ones and to those of `listed` that are in the
-- table, a Lookup to the one for which the name stands.
unfoldable pub returned_objects : SpaceConfig → History → Ask → List ObjId
returned_objects config h (Finish object made listed uid) =
    map (λ x. x.id) (exports config h (Finish object made listed uid)) ++ filter (has (table config h)) listed
returned_objects config h (Lookup name uid) = option_to_list (stands_for h name)
returned_objects config h _ = []

-- The place of an event after a history.
unfoldable pub place_of : SpaceConfig → History → Event → Place
place_of config h e = let effective = is_effective config h e.by e.ask in record {
  index = length h;
  moment = max e.moment (now h);
  event = e;
  effective = effective;
  table_before = table config h;
  name_stood_for = option_and_then (stands_for h) (name_in e.ask);
  exported_here = if effective then exports config h e.ask else [];
  returned_here = if effective then returned_objects config h e.ask else [];
}

-- The places of a history whose events are given newest first.
unfoldable pub places_back : SpaceConfig → List Event → History
places_back config [] = []
places_back config (e ∷ before) = place_of config (places_back config before) e ∷ places_back config before

-- One more event at the end of these, which are given oldest first.
abbrev pub with_event : List Event → Event → List Event
with_event events e = events ++ e ∷ []

-- The places of a history, the newest first. Its events are given oldest first.
unfoldable pub places : SpaceConfig → List Event → History
places config events = places_back config (reverse events)

-- ---- withdrawals

-- The objects that a history withdraws at its newest place: those that were in the table before it or were exported there, and
-- are not kept.
unfoldable pub withdrawn_objects : SpaceConfig → History → List Exported
withdrawn_objects config [] = []
withdrawn_objects config (p ∷ before) = filter (λ x. not (is_kept config (p ∷ before) x)) (p.table_before ++ p.exported_here)

abbrev pub withdrawals_at_end : SpaceConfig → History → List Withdrawal
withdrawals_at_end config [] = []
withdrawals_at_end config (p ∷ before) = map (λ x. record { object = x.id; place = p.index }) (withdrawn_objects config (p ∷ before))

-- All withdrawals of a history, in order.
unfoldable pub withdrawals : SpaceConfig → History → List Withdrawal
withdrawals config [] = []
withdrawals config (p ∷ before) = withdrawals config before ++ withdrawals_at_end config (p ∷ before)
