-- Units, the entries of the tables, and when an event is refused.
use Rattle.std.specs.Prelude.{ℕ, ◌+◌, ◌-◌, max, Bool, true, false, List, [], ◌++◌, length, ◌&&◌, nat_le, nat_lt, filter, flat_map, map, sum_by, Option, Some, None, option_to_list, if◌then◌else◌}
use Rattle.object_ids.specs.declared.ids.FullKind.TheVariants.{Exports, Awaiting, Clients, Pairs, Names}
use Rattle.object_ids.specs.Same.{same_client, same_bytes}
use Rattle.history.specs.declared.asks.SpaceConfig.{SpaceConfig}
use Rattle.history.specs.declared.asks.Event.{Event}
use Rattle.history.specs.declared.asks.Ask.{Ask}
use Rattle.history.specs.declared.asks.Ask.TheVariants.{Begin, Finish, Abandon, Dirty, Clean}
use Rattle.history.specs.declared.calls.Call.{Call}
use Rattle.history.specs.declared.replies.Refused.{Refused}
use Rattle.history.specs.declared.replies.Refused.TheVariants.{HistoryFull, Full}
use Rattle.history.specs.declared.places.Place.{Place}
use Rattle.history.specs.declared.limits.Limits.{Limits}
use Rattle.history.specs.declared.limits.TheConstants.{MAX_EXPORTS, MAX_AWAITING, MAX_CLIENTS, MAX_PAIRS, MAX_NAMES, MAX_HISTORY_UNITS, MAX_ERASED_UNITS, MAX_RUNNING_CALLS}
use Rattle.history.specs.Lists.{distinct}
use Rattle.history.specs.Places.{History, has, now}
use Rattle.history.specs.LeaseCalls.{call_with, lease_calls}
use Rattle.history.specs.Leases.{is_dirty, clients_with_time_left, same_pair, pairs_with, new_pairs}
use Rattle.history.specs.Awaiting.{same_returned, returned_references, awaiting_references}
use Rattle.history.specs.Names.{names, name_bound}
use Rattle.history.specs.Replies.{ids}
use Rattle.history.specs.Table.{table, place_of}

-- ---- units

-- An event has one unit, and one for each entry of its lists.
abbrev pub units_of : Ask → ℕ
units_of (Finish object made listed uid) = 1 + length made + length listed
units_of (Dirty client number asked objects) = 1 + length objects
units_of (Clean client number objects strong) = 1 + length objects
units_of _ = 1

-- The units of a history.
unfoldable pub units : History → ℕ
units h = sum_by (λ p. units_of p.event.ask) h

abbrev pub is_begin : Ask → Bool
is_begin (Begin object) = true
is_begin _ = false

abbrev pub is_end : Ask → Bool
is_end (Finish object made listed uid) = true
is_end (Abandon object) = true
is_end _ = false

-- A Begin that starts a call, and a Finish or an Abandon that ends one.
abbrev pub starts : Place → Bool
starts p = p.effective && is_begin p.event.ask

abbrev pub ends : Place → Bool
ends p = p.effective && is_end p.event.ask

-- Each running call has a unit reserved, for the event that ends it.
unfoldable pub reserved_units : History → ℕ
reserved_units h = length (filter starts h) - length (filter ends h)

-- ---- limits

-- The most units of a history, which is stored or exists in proofs alone.
abbrev pub units_limit : Bool → ℕ
units_limit stored = if stored then MAX_HISTORY_UNITS else MAX_ERASED_UNITS

-- The limits of a space.
abbrev pub limits : SpaceConfig → Limits
limits config = record {
  exports = MAX_EXPORTS;
  awaiting = MAX_AWAITING;
  clients = MAX_CLIENTS;
  pairs = MAX_PAIRS;
  names = MAX_NAMES;
  units = units_limit config.stored;
  running = MAX_RUNNING_CALLS;
}

-- ---- how many entries each table has with an event: those of the history at the event's moment, and those that the event adds. An
-- entry is counted once.

-- Exported objects.
unfoldable pub exports_with_event : SpaceConfig → History → Event → ℕ
exports_with_event config h e = length (table config h) + length (place_of config h e).exported_here

-- Returned references that await their acknowledgement.
unfoldable pub awaiting_with_event : SpaceConfig → History → Event → ℕ
awaiting_with_event config h e =
    let p = place_of config h e in
    length (distinct same_returned (awaiting_references config.ack_ms p.moment h ++ returned_references p))

-- The lease call of an event, with those of its objects that are in the table.
abbrev pub lease_call : SpaceConfig → History → Event → List Call
lease_call config h e = call_with (has (table config h)) (max e.moment (now h)) e.ask

-- Clients with time left.
unfoldable pub clients_with_event : SpaceConfig → History → Event → ℕ
clients_with_event config h e =
    length (distinct same_client (
    clients_with_time_left config.lease_ms (max e.moment (now h)) (lease_calls h)
    ++ map (λ x. x.client) (filter is_dirty (lease_call config h e))))

-- Remembered pairs of a client and an object of the table.
unfoldable pub pairs_with_event : SpaceConfig → History → Event → ℕ
pairs_with_event config h e =
    length (distinct same_pair (
    pairs_with config.lease_ms (max e.moment (now h)) (lease_calls h) (ids (table config h))
    ++ flat_map (new_pairs config.lease_ms (lease_calls h)) (lease_call config h e)))

-- Names that stand for something.
unfoldable pub names_with_event : SpaceConfig → History → Event → ℕ
names_with_event config h e =
    length (distinct same_bytes (
    names h ++ (if (place_of config h e).effective then option_to_list (name_bound e.ask) else [])))

-- ---- refusal

-- The history is full: its units, those reserved, the event's, and one for a call that starts, less one for a call that ends, pass
-- the limit.
unfoldable pub is_full : ℕ → SpaceConfig → History → Event → Bool
is_full limit config h e =
    let p = place_of config h e in
    nat_lt (limit + (if ends p then 1 else 0)) (units h + reserved_units h + units_of e.ask + (if starts p then 1 else 0))

-- The event starts a call, and so many run already: each running call has one unit reserved.
unfoldable pub starts_too_many : ℕ → SpaceConfig → History → Event → Bool
starts_too_many limit config h e = starts (place_of config h e) && nat_le limit (reserved_units h)

-- The first cause for which an event is refused after a history.
unfoldable pub refusal : Limits → SpaceConfig → History → Event → Option Refused
refusal within config h e =
    if is_full within.units config h e then Some HistoryFull
    else if starts_too_many within.running config h e then Some HistoryFull
    else if nat_lt within.exports (exports_with_event config h e) then Some (Full Exports)
    else if nat_lt within.awaiting (awaiting_with_event config h e) then Some (Full Awaiting)
    else if nat_lt within.clients (clients_with_event config h e) then Some (Full Clients)
    else if nat_lt within.pairs (pairs_with_event config h e) then Some (Full Pairs)
    else if nat_lt within.names (names_with_event config h e) then Some (Full Names)
    else None
