-- The room that a space keeps, so that a running call can be ended where there is no memory.
use Rattle.std.specs.Prelude.{ℕ, ◌+◌, ◌≤◌, List, length}
use Rattle.history.specs.declared.asks.Event.{Event}
use Rattle.history.specs.declared.places.Withdrawal.{Withdrawal}
use Rattle.export_table.specs.Table.{ExportTable}
use Rattle.space.specs.declared.runs.Run.{Run}

-- There is room for the event that ends each running call, and for the withdrawal of each exported object.
pub record HasRoom (events : List Event) (events_room : ℕ) (runs : List Run) (withdrawn : List Withdrawal) (withdrawn_room : ℕ) (exports : ExportTable) : Type 0 where
  pub ends : length events + length runs ≤ events_room
  pub withdrawals : length withdrawn + length exports.rows ≤ withdrawn_room
