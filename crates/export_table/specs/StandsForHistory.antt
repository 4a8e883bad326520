-- The history that an export table stands for: its waits are the returned references of the history that await their acknowledgement, and its
-- rows have objects of the history, each with how many calls of it run and how many names stand for it.
use Rattle.std.specs.Prelude.{◌≡◌, ◌≤◌, ℕ, ◌+◌, max, Bool, true, false, List, [], ◌∷◌, length, map, if◌then◌else◌, Some}
use Rattle.object_ids.specs.declared.ids.ObjId.{ObjId}
use Rattle.object_ids.specs.declared.ids.Uid.{Uid}
use Rattle.history.specs.declared.asks.Ask.{Ask}
use Rattle.history.specs.declared.asks.Ask.TheVariants.{Open, Begin, Finish, Abandon, Ack, Bind, Rebind, Unbind}
use Rattle.history.specs.declared.asks.Event.{Event}
use Rattle.history.specs.declared.asks.SpaceConfig.{SpaceConfig}
use Rattle.history.specs.declared.places.Exported.{Exported}
use Rattle.history.specs.declared.places.Returned.{Returned}
use Rattle.history.specs.Awaiting.{same_returned, returned_references, return_uid, is_ack_of, awaits, awaiting_references, awaiting_references_to as awaiting_to, until_of}
use Rattle.history.specs.LeaseCalls.{lease_calls}
use Rattle.history.specs.Names.{is_name_change, names_of, stands_for}
use Rattle.history.specs.Places.{History, has, now, exported_count, id_at}
use Rattle.history.specs.Running.{begins_any, ends_any, running_calls}
use Rattle.history.specs.Table.{with_event, is_effective, is_kept, place_of, places}
use Rattle.history.specs.Lists.{AllOnce}
use Rattle.export_table.specs.declared.rows.Export.{Export}
use Rattle.export_table.specs.declared.waits.Wait.{Wait}
use Rattle.export_table.specs.ExportRows.{running_of, new_row, with_row_changed, with_call_begun, with_call_ended, pinned_once, with_pin_removed, is_row_kept, held_by}
use Rattle.export_table.specs.Waits.{still_waiting, is_waiting, awaiting_of, with_each_listed, without_acknowledged}

-- ---- waits

-- The moment until which the list has a reference wait, 0 where it isn't there.
abbrev pub until_in : {W : Type 0} → (W → Returned) → (W → ℕ) → Returned → List W → ℕ
until_in ref until r [] = 0
until_in ref until r (w ∷ ws) = if same_returned (ref w) r then until w else until_in ref until r ws

-- Each reference is there once.
abbrev pub waits_once : {W : Type 0} → (W → Returned) → List W → Type 0
waits_once ref ws = AllOnce (λ a b. same_returned (ref a) (ref b)) ws

-- The list has each reference wait until this moment, where that comes after m.
pub record WaitsFor {W : Type 0} (ref : W → Returned) (until : W → ℕ) (m : ℕ) (f : Returned → ℕ) (ws : List W) : Type 0 where
  pub once : waits_once ref ws
  pub each : (r : Returned) → max m (until_in ref until r ws) ≡ max m (f r)

-- A list of waits stands for those of a history at a moment.
abbrev pub WaitsStand : {W : Type 0} → (W → Returned) → (W → ℕ) → ℕ → ℕ → History → List W → Type 0
WaitsStand ref until ack moment h ws = WaitsFor ref until moment (until_of ack h) ws

-- What a wait of an export table is of, and until when it is one.
abbrev pub reference_of : Wait → Returned
reference_of w = record { object = w.object; uid = w.uid }

abbrev pub end_of : Wait → ℕ
end_of w = w.until

-- The references to objects that a return has.
abbrev pub references : Uid → List ObjId → List Returned
references uid os = map (λ o. record { object = o; uid = uid }) os

-- The waits of an export table stand for those of a history.
abbrev pub AreWaits : ℕ → ℕ → History → List Wait → Type 0
AreWaits ack moment h waits = WaitsStand reference_of end_of ack moment h waits

-- ---- rows

-- An exported object as an export table has it, with how many calls of it run, and a pin for each name that stands for it.
abbrev pub row_of : History → Exported → Export
row_of h x = record { id = x.id; kind = x.kind; pinned = x.pinned; running = running_calls h x.id; pins = length (names_of h x.id) }

abbrev pub rows_of : History → List Exported → List Export
rows_of h objects = map (row_of h) objects

-- ---- laws of waits

-- None wait where there is no history.
abbrev pub NoneAwaits : Type 0
NoneAwaits = (ack : ℕ) → AreWaits ack 0 [] []

-- What waits in the table is what awaits in the history, reference by reference and in number.
abbrev pub WaitingAwaits : Type 0
WaitingAwaits = (ack m t : ℕ) (h : History) (waits : List Wait) → m ≤ t → AreWaits ack m h waits →
    ((o : ObjId) (u : Uid) → is_waiting t o u waits ≡ awaits ack t h (record { object = o; uid = u }))
    × (length (still_waiting t waits) ≡ length (awaiting_references ack t h))
    × ((o : ObjId) → length (awaiting_of t o waits) ≡ length (awaiting_to ack t h o))

-- Time that passes, and waits that end and are forgotten, leave it so.
abbrev pub WaitingStands : Type 0
WaitingStands = (ack m t : ℕ) (h : History) (waits : List Wait) → m ≤ t → AreWaits ack m h waits → AreWaits ack t h (still_waiting t waits)

-- A return lists each reference that it returns.
abbrev pub ReturnLists : Type 0
ReturnLists = (config : SpaceConfig) (events : List Event) (e : Event) (uid : Uid) (waits : List Wait) → return_uid e.ask ≡ Some uid →
    AreWaits config.ack_ms (now (places config events)) (places config events) waits →
    AreWaits config.ack_ms (max e.moment (now (places config events))) (places config (with_event events e))
    (with_each_listed config.ack_ms (max e.moment (now (places config events))) uid (place_of config (places config events) e).returned_here waits)

-- An acknowledgement ends the waits of its return.
abbrev pub AckEnds : Type 0
AckEnds = (config : SpaceConfig) (events : List Event) (e : Event) (uid : Uid) (waits : List Wait) → e.ask ≡ Ack uid →
    AreWaits config.ack_ms (now (places config events)) (places config events) waits →
    AreWaits config.ack_ms (max e.moment (now (places config events))) (places config (with_event events e)) (without_acknowledged uid waits)

-- An event that returns no references and is no acknowledgement leaves the waits.
abbrev pub OthersLeaveWaits : Type 0
OthersLeaveWaits = (config : SpaceConfig) (events : List Event) (e : Event) (waits : List Wait) → returned_references (place_of config (places config events) e) ≡ [] → ((u : Uid) → is_ack_of u e.ask ≡ false) →
    AreWaits config.ack_ms (now (places config events)) (places config events) waits →
    AreWaits config.ack_ms (max e.moment (now (places config events))) (places config (with_event events e)) waits

-- ---- laws of rows

-- A row says how many calls of its object run.
abbrev pub RowsCount : Type 0
RowsCount = (h : History) (objects : List Exported) (o : ObjId) → has objects o ≡ true → running_of (rows_of h objects) o ≡ running_calls h o

-- A call that begins is one more.
abbrev pub BeginCounts : Type 0
BeginCounts = (config : SpaceConfig) (events : List Event) (e : Event) (o : ObjId) (objects : List Exported) → e.ask ≡ Begin o → is_effective config (places config events) e.by e.ask ≡ true →
    with_row_changed with_call_begun o (rows_of (places config events) objects) ≡ rows_of (places config (with_event events e)) objects

-- The ask ends a call of this object.
abbrev pub EndsCallOf : ObjId → Ask → Type 0
EndsCallOf o (Finish object made listed uid) = object ≡ o
EndsCallOf o (Abandon object) = object ≡ o
EndsCallOf o _ = ⊥

-- A call that ends is one less.
abbrev pub EndCounts : Type 0
EndCounts = (config : SpaceConfig) (events : List Event) (e : Event) (o : ObjId) (objects : List Exported) → EndsCallOf o e.ask → is_effective config (places config events) e.by e.ask ≡ true →
    with_row_changed with_call_ended o (rows_of (places config events) objects) ≡ rows_of (places config (with_event events e)) objects

-- An event that begins no call, ends none and changes no name leaves the rows.
abbrev pub OthersLeaveRows : Type 0
OthersLeaveRows = (config : SpaceConfig) (events : List Event) (e : Event) (objects : List Exported) → ((o : ObjId) → begins_any o (place_of config (places config events) e) ≡ false) → ((o : ObjId) → ends_any o (place_of config (places config events) e) ≡ false) →
    is_name_change e.ask ≡ false →
    rows_of (places config events) objects ≡ rows_of (places config (with_event events e)) objects

-- A name that is bound pins its object once more.
abbrev pub BindPins : Type 0
BindPins = (config : SpaceConfig) (events : List Event) (e : Event) (n : List ℕ) (o : ObjId) (objects : List Exported) → e.ask ≡ Bind n o → is_effective config (places config events) e.by e.ask ≡ true →
    with_row_changed pinned_once o (rows_of (places config events) objects) ≡ rows_of (places config (with_event events e)) objects

-- One that is bound, whatever it stood for, also takes a pin off the object for which it stood.
abbrev pub RebindPins : Type 0
RebindPins = (config : SpaceConfig) (events : List Event) (e : Event) (n : List ℕ) (o : ObjId) (objects : List Exported) → e.ask ≡ Rebind n o → is_effective config (places config events) e.by e.ask ≡ true →
    with_pin_removed (stands_for (places config events) n) (with_row_changed pinned_once o (rows_of (places config events) objects)) ≡ rows_of (places config (with_event events e)) objects

-- One that is unbound takes a pin off the object for which it stood.
abbrev pub UnbindUnpins : Type 0
UnbindUnpins = (config : SpaceConfig) (events : List Event) (e : Event) (n : List ℕ) (objects : List Exported) → e.ask ≡ Unbind n → is_effective config (places config events) e.by e.ask ≡ true →
    with_pin_removed (stands_for (places config events) n) (rows_of (places config events) objects) ≡ rows_of (places config (with_event events e)) objects

-- ---- laws of what is added

-- The kinds of the objects that an ask exports, and whether they are pinned.
abbrev pub kinds_exported : Bool → Ask → List ℕ
kinds_exported effective (Open kind pinned) = kind ∷ []
kinds_exported effective (Finish object made listed uid) = if effective then made else []
kinds_exported effective _ = []

abbrev pub is_exported_pinned : Ask → Bool
is_exported_pinned (Open kind pinned) = pinned
is_exported_pinned _ = false

-- The rows of objects of these kinds that are added one after the other, the first of them as the space's k-th.
abbrev pub added_rows : Uid → ℕ → Bool → List ℕ → List Export
added_rows space k pinned [] = []
added_rows space k pinned (kind ∷ kinds) = new_row (id_at space k) kind pinned ∷ added_rows space (k + 1) pinned kinds

-- The objects that an event exports have the rows with which they are added: they are numbered on from all that were added before, no call of
-- them runs, and no name stands for them.
abbrev pub ExportsAreAdded : Type 0
ExportsAreAdded = (config : SpaceConfig) (events : List Event) (e : Event) →
    rows_of (places config (with_event events e)) (place_of config (places config events) e).exported_here
    ≡ added_rows config.uid (exported_count (places config events)) (is_exported_pinned e.ask) (kinds_exported (is_effective config (places config events) e.by e.ask) e.ask)

-- As many more objects were ever exported as were added.
abbrev pub ExportsAreCounted : Type 0
ExportsAreCounted = (config : SpaceConfig) (events : List Event) (e : Event) →
    exported_count (places config (with_event events e)) ≡ exported_count (places config events) + length (kinds_exported (is_effective config (places config events) e.by e.ask) e.ask)

-- ---- the law of what is kept

-- A row is kept exactly where the history keeps its object.
abbrev pub RowsAreKept : Type 0
RowsAreKept = (config : SpaceConfig) (events : List Event) (waits : List Wait) (x : Exported) →
    AreWaits config.ack_ms (now (places config events)) (places config events) waits →
    is_row_kept (now (places config events)) (held_by config.lease_ms (now (places config events)) (lease_calls (places config events))) waits (row_of (places config events) x)
    ≡ is_kept config (places config events) x
