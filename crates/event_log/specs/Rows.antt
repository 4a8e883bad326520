-- The events of a log's rows.
use Rattle.std.specs.Prelude.{◌≡◌, ◌<◌, ℕ, ℤ, pos, Option, Some, None, List, [], ◌∷◌, slice_get, unwrap_or}
use Rattle.object_ids.specs.declared.ids.Uid.{Uid}
use Rattle.object_ids.specs.declared.ids.ObjId.{ObjId}
use Rattle.object_ids.specs.Client.{Client}
use Rattle.history.specs.declared.asks.Event.{Event}
use Rattle.history.specs.declared.asks.Ask.{Ask}
use Rattle.history.specs.declared.asks.Ask.TheVariants.{Open, Begin, Finish, Abandon, Dirty, Clean, Ack, Lookup, List as ListNames, Tick}
use Rattle.event_log.specs.declared.rows.Row.{Row}
use Rattle.event_log.specs.declared.rows.What.{What}
use Rattle.event_log.specs.declared.rows.What.TheVariants.{Opens, Begins, Finishes, Abandons, Acks, Dirties, Renews, Cleans, CleansNothing, LooksUp, ListsNames, Ticks, Whole}

-- An ask in a space that has neither lists nor names. A Finish is of an object of the space.
abbrev pub IsPlain : Uid → Ask → Type 0
IsPlain space (Open kind pinned) = Unit {0}
IsPlain space (Begin object) = Unit {0}
IsPlain space (Finish object made listed uid) = (made ≡ []) × (listed ≡ []) × (object.space ≡ space)
IsPlain space (Abandon object) = Unit {0}
IsPlain space (Ack uid) = Unit {0}
IsPlain space ListNames = Unit {0}
IsPlain space Tick = Unit {0}
IsPlain space _ = ⊥

-- The space's own object of this number, or none, as a list.
abbrev pub objects_of : Uid → Option ℤ → List ObjId
objects_of space (Some object) = record { number = object; space = space } ∷ []
objects_of space None = []

-- A Dirty or a Clean of none or one of the space's own objects: of the one of this number, where there is a number.
abbrev pub IsOfFew : Uid → Option ℤ → Ask → Type 0
IsOfFew space object (Dirty client number asked objects) = objects ≡ objects_of space object
IsOfFew space object (Clean client number objects strong) = objects ≡ objects_of space object
IsOfFew space object _ = ⊥

-- Whose call of the collector it is.
abbrev pub client_of : Ask → Option Client
client_of (Dirty client number asked objects) = Some client
client_of (Clean client number objects strong) = Some client
client_of _ = None

-- The name that is looked up.
abbrev pub name_looked_up : Ask → Option (List ℕ)
name_looked_up (Lookup name uid) = Some name
name_looked_up _ = None

-- The client of a number that no client has.
abbrev pub nobody : Client
nobody = record { addr = []; uid = record { unique = pos 0; time = pos 0; count = pos 0 } }

-- The client of this number.
abbrev pub client_at : List Client → ℕ → Client
client_at clients number = unwrap_or (slice_get clients number) nobody

-- The name of this number.
abbrev pub name_at : List (List ℕ) → ℕ → List ℕ
name_at names number = unwrap_or (slice_get names number) []

-- The event of a connection at a moment that says this, where these are the clients and the names by their numbers.
abbrev pub event_with : Uid → List Client → List (List ℕ) → ℕ → ℕ → What → Event
event_with space clients names by moment (Opens kind pinned) = record { by = by; moment = moment; ask = Open kind pinned }
event_with space clients names by moment (Begins object) = record { by = by; moment = moment; ask = Begin object }
event_with space clients names by moment (Finishes number uid) = record { by = by; moment = moment; ask = Finish (record { number = number; space = space }) [] [] uid }
event_with space clients names by moment (Abandons object) = record { by = by; moment = moment; ask = Abandon object }
event_with space clients names by moment (Acks uid) = record { by = by; moment = moment; ask = Ack uid }
event_with space clients names by moment (Dirties client number asked object) =
    record { by = by; moment = moment; ask = Dirty (client_at clients client) number asked (record { number = object; space = space } ∷ []) }
event_with space clients names by moment (Renews client number asked) = record { by = by; moment = moment; ask = Dirty (client_at clients client) number asked [] }
event_with space clients names by moment (Cleans client strong number object) =
    record { by = by; moment = moment; ask = Clean (client_at clients client) number (record { number = object; space = space } ∷ []) strong }
event_with space clients names by moment (CleansNothing client strong number) = record { by = by; moment = moment; ask = Clean (client_at clients client) number [] strong }
event_with space clients names by moment (LooksUp name uid) = record { by = by; moment = moment; ask = Lookup (name_at names name) uid }
event_with space clients names by moment ListsNames = record { by = by; moment = moment; ask = ListNames }
event_with space clients names by moment Ticks = record { by = by; moment = moment; ask = Tick }
event_with space clients names by moment (Whole event) = event.value

-- The event of a row, in a space.
abbrev pub event_of : Uid → List Client → List (List ℕ) → Row → Event
event_of space clients names row = event_with space clients names row.by row.moment row.what

-- It is a call of the collector.
abbrev pub IsLeaseCall : What → Type 0
IsLeaseCall (Dirties client number asked object) = Unit {0}
IsLeaseCall (Renews client number asked) = Unit {0}
IsLeaseCall (Cleans client strong number object) = Unit {0}
IsLeaseCall (CleansNothing client strong number) = Unit {0}
IsLeaseCall _ = ⊥

-- It says its ask by itself, with no client, name or event beside it.
abbrev pub IsBare : What → Type 0
IsBare (Opens kind pinned) = Unit {0}
IsBare (Begins object) = Unit {0}
IsBare (Finishes number uid) = Unit {0}
IsBare (Abandons object) = Unit {0}
IsBare (Acks uid) = Unit {0}
IsBare ListsNames = Unit {0}
IsBare Ticks = Unit {0}
IsBare _ = ⊥

-- The client or the name that it says is one of so many.
abbrev pub IsAmong : ℕ → ℕ → What → Type 0
IsAmong clients names (Dirties client number asked object) = client < clients
IsAmong clients names (Renews client number asked) = client < clients
IsAmong clients names (Cleans client strong number object) = client < clients
IsAmong clients names (CleansNothing client strong number) = client < clients
IsAmong clients names (LooksUp name uid) = name < names
IsAmong clients names _ = Unit {0}

abbrev pub IsKnown : ℕ → ℕ → Row → Type 0
IsKnown clients names row = IsAmong clients names row.what
