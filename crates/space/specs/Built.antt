-- How contracts see a space.
use Rattle.std.specs.Prelude.{ℕ, true, List, map}
use Rattle.history.specs.declared.asks.SpaceConfig.{SpaceConfig}
use Rattle.history.specs.declared.asks.Ask.TheVariants.{Open}
use Rattle.history.specs.declared.asks.Event.{Event}
use Rattle.history.specs.declared.places.Exported.{Exported}
use Rattle.history.specs.Table.{places, table}
use Rattle.export_table.specs.declared.rows.Export.{Export}

-- A space is its configuration, the events that it took, the oldest first, and the rows of its export table: the
-- objects that are exported, by rising number, each with its kind and whether it was opened pinned. The rows are what the table holds; that they are
-- those of its history is promised by `Space::len`.
pub record SpaceHistory : Type 0 where
  pub configuration : SpaceConfig
  pub events : List Event
  pub rows : List Exported

-- The space of these events whose rows are those of the history's table.
abbrev pub space_of : SpaceConfig → List Event → SpaceHistory
space_of config events = record { configuration = config; events = events; rows = table config (places config events) }

-- An object as its export table has it, without what keeps it.
abbrev pub exported_row : Export → Exported
exported_row x = record { id = x.id; kind = x.kind; pinned = x.pinned }

-- The rows of an export table.
abbrev pub exported_rows : List Export → List Exported
exported_rows rows = map exported_row rows

-- The server itself, which is connection 0, exports an object of a kind for good, at the moment 0.
abbrev pub open_event : ℕ → Event
open_event kind = record { by = 0; moment = 0; ask = Open kind true }
