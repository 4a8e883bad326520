-- The export table of a space.
use Rattle.std.specs.Prelude.{ℕ, ◌≤◌, IsTrue, List, length}
use Rattle.std.specs.List.{list_all}
use Rattle.object_ids.specs.declared.ids.Uid.{Uid}
use Rattle.history.specs.declared.limits.TheConstants.{MAX_EXPORTS, MAX_AWAITING, END_OF_OBJECT_COUNT, MAX_DURATION_MS}
use Rattle.export_table.specs.declared.rows.Export.{Export}
use Rattle.export_table.specs.declared.waits.Wait.{Wait}
use Rattle.export_table.specs.ExportRows.{ids, is_rising, is_given}
use Rattle.export_table.specs.Waits.{each_once}

-- How many exports and waits can be added without memory.
pub record Room : Type 0 where
  pub exports : ℕ
  pub waits : ℕ

abbrev pub no_room : Room
no_room = record { exports = 0; waits = 0 }

-- A space's identifier, how long a returned reference awaits its acknowledgement, how many objects were ever added, the exported
-- objects by rising number, and the references that await, the last listed last.
pub record ExportTable : Type 0 where
  pub space : Uid
  pub ack : ℕ
  pub added : ℕ
  pub rows : List Export
  pub waits : List Wait
  pub room : Room

-- What holds of each table: a reference awaits from 1 to 2^40 milliseconds, at most 2^62 objects were added, the exported ones are among
-- them and in their order, and there are no more entries than can be, each once.
pub record IsSound (space : Uid) (ack added : ℕ) (rows : List Export) (waits : List Wait) : Type 0 where
  pub some : 1 ≤ ack
  pub short : ack ≤ MAX_DURATION_MS
  pub countable : added ≤ END_OF_OBJECT_COUNT
  pub rising : IsTrue (is_rising (ids rows))
  pub given : IsTrue (list_all (is_given space added) (ids rows))
  pub few : length rows ≤ MAX_EXPORTS
  pub few_waits : length waits ≤ MAX_AWAITING
  pub once : IsTrue (each_once waits)
