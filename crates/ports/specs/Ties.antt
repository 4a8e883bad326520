-- How a port is tied to its space.
use Rattle.std.specs.Prelude.{◌≡◌, ℕ, ◌+◌, ◌≤◌, Bool, List, ◌++◌, length, filter}
use Rattle.object_ids.specs.declared.ids.ObjId.{ObjId}
use Rattle.object_ids.specs.Same.{same_id}
use Rattle.history.specs.Running.{running_calls_by}
use Rattle.history.specs.Table.{places}
use Rattle.space.specs.declared.asked.Asked.{Asked}
use Rattle.space.specs.Built.{SpaceHistory}
use Rattle.ports.specs.Ports.{begins, ends, Went}

abbrev pub is_call_of : ObjId → ObjId → Bool
is_call_of o object = same_id object o

-- A port's entries are tied to its space by a list of objects, one for each call that the entries show running: of each object as many calls as the
-- entries begin and don't end, and no more than the connection runs by the history. Calls that ran before the port was made are in no entry, and not in
-- the list. There is room for an entry that ends each of the listed calls.
pub record IsTied (by : ℕ) (s : SpaceHistory) (entries : List Asked) (room : ℕ) : Type 0 where
  pub calls : List ObjId
  pub run : (o : ObjId) → length (filter (is_call_of o) calls) ≤ running_calls_by (places s.configuration s.events) by o
  pub shown : (o : ObjId) → length (filter (begins o) entries) ≤ length (filter (is_call_of o) calls) + length (filter (ends o) entries)
  pub few : length calls ≤ length entries
  pub within : length entries + length calls ≤ room

-- The same of a port whose entries exist in proofs alone: it needs no room for them.
abbrev pub IsTiedTold : ℕ → SpaceHistory → List Asked → Type 0
IsTiedTold by s entries = IsTied by s entries (length entries + length entries)

-- A connection's entries are those before and further ones, and these lead from a space's history to its history now.
pub record Leads (by : ℕ) (s : SpaceHistory) (entries : List Asked) (s_after : SpaceHistory) (entries_after : List Asked) : Type 0 where
  pub same : s_after.configuration ≡ s.configuration
  pub more : List Asked
  pub longer : entries_after ≡ entries ++ more
  pub went : Went s.configuration by s.events more s_after.events
