-- What the collector keeps and withdraws at one event (Java RMI Specification, chapter 9): the sentence that the other definitions
-- come to, with each reason to keep an object in its own words. It speaks of the rows of any table, those before the event and those
-- after it, so that a table which keeps what it should drop doesn't meet it.
use Rattle.std.specs.Prelude.{◌≡◌, ℕ, ◌<◌, ◌↔◌, ◌⊎◌, true, not, List, [], ◌∷◌, ◌++◌, filter, Some}
use Rattle.object_ids.specs.declared.ids.Uid.{Uid}
use Rattle.object_ids.specs.declared.ids.ObjId.{ObjId}
use Rattle.object_ids.specs.Client.{Client}
use Rattle.history.specs.declared.asks.SpaceConfig.{SpaceConfig}
use Rattle.history.specs.declared.asks.Event.{Event}
use Rattle.history.specs.declared.places.Exported.{Exported}
use Rattle.history.specs.Places.{History, now}
use Rattle.history.specs.Leases.{calls_of, holds}
use Rattle.history.specs.LeaseCalls.{lease_calls}
use Rattle.history.specs.Awaiting.{until_of}
use Rattle.history.specs.Names.{stands_for}
use Rattle.history.specs.Table.{is_kept, table, place_of, places, withdrawn_objects, with_event}
use Rattle.history.specs.Laws.{SomeConnectionRuns}

-- ---- why an object is kept

-- It was opened pinned.
abbrev pub IsOpenedPinned : Exported → Type 0
IsOpenedPinned x = x.pinned ≡ true

-- Some name stands for it.
abbrev pub SomeNameStands : History → ObjId → Type 0
SomeNameStands h o = (n : List ℕ) × (stands_for h n ≡ Some o)

-- Some returned reference to it awaits its acknowledgement: the time to acknowledge has not ended.
abbrev pub SomeReferenceAwaits : SpaceConfig → History → ObjId → Type 0
SomeReferenceAwaits config h o = (u : Uid) × now h < until_of config.ack_ms h (record { object = o; uid = u })

-- Some client holds it.
abbrev pub SomeClientHolds : SpaceConfig → History → ObjId → Type 0
SomeClientHolds config h o = (c : Client) × (holds config.lease_ms (now h) (calls_of c (lease_calls h)) o ≡ true)

-- There is a reason to keep it.
abbrev pub IsNeeded : SpaceConfig → History → Exported → Type 0
IsNeeded config h x =
    IsOpenedPinned x
    ⊎ (SomeNameStands h x.id
    ⊎ (SomeConnectionRuns h x.id
    ⊎ (SomeReferenceAwaits config h x.id
    ⊎ SomeClientHolds config h x.id)))

-- ---- one event

-- The rows of a table before an event, and the objects that it exports.
abbrev pub rows_and_exports : SpaceConfig → List Event → List Exported → Event → List Exported
rows_and_exports config h rows e = rows ++ (place_of config (places config h) e).exported_here

-- The rows of the table after the event: those of them that are kept.
abbrev pub rows_after : SpaceConfig → List Event → List Exported → Event → List Exported
rows_after config h rows e = filter (is_kept config (places config (with_event h e))) (rows_and_exports config h rows e)

-- The rows after a list of events, one event after the other.
abbrev pub rows_after_each : SpaceConfig → List Event → List Exported → List Event → List Exported
rows_after_each config h rows [] = rows
rows_after_each config h rows (e ∷ events) = rows_after_each config (with_event h e) (rows_after config h rows e) events

-- With the event e the history h becomes h2, and a table of exported objects that had the rows `rows` has the rows `rows2`: of those rows, and of
-- the objects that e exports, it keeps the ones that are kept, and the others are what is withdrawn. An object is kept exactly where there is a
-- reason to.
pub record Collects (config : SpaceConfig) (h : List Event) (rows : List Exported) (e : Event) (h2 : List Event) (rows2 : List Exported) : Type 0 where
  pub after : h2 ≡ with_event h e
  pub stays : rows2 ≡ rows_after config h rows e
  pub goes : withdrawn_objects config (places config h2) ≡ filter (λ x. not (is_kept config (places config h2) x)) (rows_and_exports config h rows e)
  pub kept : (x : Exported) → (is_kept config (places config h2) x ≡ true) ↔ IsNeeded config (places config h2) x

-- The same of the tables of the two histories.
abbrev pub TableCollects : SpaceConfig → List Event → Event → List Event → Type 0
TableCollects config h e h2 = Collects config h (table config (places config h)) e h2 (table config (places config h2))
