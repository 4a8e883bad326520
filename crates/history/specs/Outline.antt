-- The outline and the summary of a history, as texts.
use Rattle.std.specs.Prelude.{ℕ, Bool, List, [], ◌∷◌, ◌++◌, length, flat_map, if◌then◌else◌, option_map, option_to_list, map, codes, decimal}
use Rattle.object_ids.specs.declared.ids.ObjId.{ObjId}
use Rattle.history.specs.declared.asks.SpaceConfig.{SpaceConfig}
use Rattle.history.specs.declared.asks.Event.{Event}
use Rattle.history.specs.declared.calls.LeaseRow.{LeaseRow}
use Rattle.history.specs.declared.places.Withdrawal.{Withdrawal}
use Rattle.history.specs.declared.places.Exported.{Exported}
use Rattle.history.specs.Places.{History, now}
use Rattle.history.specs.Running.{running_calls}
use Rattle.history.specs.LeaseCalls.{lease_calls}
use Rattle.history.specs.Leases.{clients_with_time_left, lease_rows, holders, pairs_with}
use Rattle.history.specs.Awaiting.{awaiting_references, awaiting_references_to}
use Rattle.history.specs.Names.{names, names_of, stands_for}
use Rattle.history.specs.Replies.{ids}
use Rattle.history.specs.Limits.{units}
use Rattle.history.specs.Table.{places, table, withdrawals}
use Rattle.history.specs.Texts.{line, client_text, object_text, name_text}

-- ---- rows

-- An exported object: how many calls of it run, how many references to it await, how many clients hold it, how many names stand
-- for it.
pub record ObjectRow : Type 0 where
  pub object : ObjId
  pub kind : ℕ
  pub pinned : Bool
  pub running : ℕ
  pub awaiting : ℕ
  pub held : ℕ
  pub names : ℕ

abbrev pub object_row : SpaceConfig → History → Exported → ObjectRow
object_row config h x = record {
  object = x.id;
  kind = x.kind;
  pinned = x.pinned;
  running = running_calls h x.id;
  awaiting = length (awaiting_references_to config.ack_ms (now h) h x.id);
  held = length (holders config.lease_ms (now h) (lease_calls h) x.id);
  names = length (names_of h x.id);
}

-- A row for each object of the table, by rising number.
abbrev pub object_rows : SpaceConfig → History → List ObjectRow
object_rows config h = map (object_row config h) (table config h)

-- ---- lines

abbrev pub events_line : History → List ℕ
events_line h = line (codes "events" ∷ decimal (length h) ∷ codes "units" ∷ decimal (units h) ∷ codes "now" ∷ decimal (now h) ∷ [])

abbrev pub object_line : SpaceConfig → ObjectRow → List ℕ
object_line config row = line (
    codes "object" ∷ object_text config.uid row.object ∷ codes "kind" ∷ decimal row.kind
    ∷ (if row.pinned then codes "pinned" else codes "free")
    ∷ codes "running" ∷ decimal row.running ∷ codes "awaiting" ∷ decimal row.awaiting
    ∷ codes "held" ∷ decimal row.held ∷ codes "names" ∷ decimal row.names ∷ [])

abbrev pub lease_line : LeaseRow → List ℕ
lease_line row = line (codes "lease" ∷ client_text row.client ∷ codes "until" ∷ decimal row.until ∷ [])

abbrev pub name_line : SpaceConfig → History → List ℕ → List ℕ
name_line config h n =
    line (codes "name" ∷ name_text n ∷ option_to_list (option_map (object_text config.uid) (stands_for h n)))

abbrev pub withdrawal_line : SpaceConfig → Withdrawal → List ℕ
withdrawal_line config w = line (codes "withdrawn" ∷ object_text config.uid w.object ∷ codes "place" ∷ decimal w.place ∷ [])

-- The outline of a history: its events, units and greatest moment; the exported objects; the clients with time left; the names; all
-- withdrawals.
unfoldable pub outline : SpaceConfig → List Event → List ℕ
outline config events =
    let h = places config events in
    events_line h
    ++ flat_map (object_line config) (object_rows config h)
    ++ flat_map lease_line (lease_rows config.lease_ms (now h) (lease_calls h))
    ++ flat_map (name_line config h) (names h)
    ++ flat_map (withdrawal_line config) (withdrawals config h)

-- The summary of a history: the outline's first line, and a line with the numbers of exported objects, clients with time left,
-- remembered pairs, awaiting references, names and withdrawals.
unfoldable pub summary : SpaceConfig → List Event → List ℕ
summary config events =
    let h = places config events in
    events_line h ++ line (
    codes "objects" ∷ decimal (length (table config h))
    ∷ codes "clients" ∷ decimal (length (clients_with_time_left config.lease_ms (now h) (lease_calls h)))
    ∷ codes "pairs" ∷ decimal (length (pairs_with config.lease_ms (now h) (lease_calls h) (ids (table config h))))
    ∷ codes "awaiting" ∷ decimal (length (awaiting_references config.ack_ms (now h) h))
    ∷ codes "names" ∷ decimal (length (names h))
    ∷ codes "withdrawn" ∷ decimal (length (withdrawals config h)) ∷ [])
