-- What a withdrawal does to the leases and the exported objects, and at which objects it has to look.
use Rattle.std.specs.Prelude.{◌≡◌, ℕ, true, false, List, ◌++◌, length, filter, map, max, if◌then◌else◌}
use Rattle.object_ids.specs.declared.ids.ObjId.{ObjId}
use Rattle.dgc_server.specs.Counts.{without_all}
use Rattle.dgc_server.specs.StandsForCalls.{LeaseTable, StandsFor, ForEachLog}
use Rattle.export_table.specs.ExportRows.{is_row_kept, is_settled_but, held_by, withdrawn_ids}
use Rattle.export_table.specs.Table.{ExportTable}
use Rattle.export_table.specs.Waits.{still_waiting}
use Rattle.space.specs.declared.doubts.Doubt.{Doubt}

-- Nothing but these objects has to go at the moment t: each other exported object is kept.
abbrev pub GoesAmong : LeaseTable → ExportTable → ℕ → List ObjId → Type 0
GoesAmong leases x t os = ForEachLog leases (λ lease moment calls. is_settled_but os t (held_by lease (max t moment) calls) x.waits x.rows ≡ true)

-- A withdrawal that looks at no object but these misses none that has to go.
abbrev pub IsEnough : LeaseTable → ExportTable → ℕ → Doubt → Type 0
IsEnough leases x t doubt = doubt.all ≡ false → GoesAmong leases x t doubt.objects.now

-- The number of objects that may go: of all exported objects, or of those that it looks at.
abbrev pub most_gone : Doubt → ExportTable → ℕ
most_gone doubt x = if doubt.all then length x.rows else length doubt.objects.now

-- Each exported object that isn't kept at the moment t was withdrawn. The leases were `leases1` and are `leases2`, the exported objects were `x` and
-- are `y`, and the list of the objects that are gone was `before` and is `after`.
pub record HasWithdrawn (leases1 leases2 : LeaseTable) (x y : ExportTable) (t : ℕ) (before after : List ObjId) : Type 0 where
  -- the rows that are kept are left, and the waits that go on; the room may be another
  pub kept : ForEachLog leases1 (λ lease moment calls. y ≡ record x { rows = filter (is_row_kept t (held_by lease (max t moment) calls) x.waits) x.rows; waits = still_waiting t x.waits; room = y.room })
  -- the objects of the other rows were appended to the list
  pub gone : ForEachLog leases1 (λ lease moment calls. after ≡ before ++ withdrawn_ids t (held_by lease (max t moment) calls) x.waits x.rows)
  -- and no client holds them
  pub dropped : ForEachLog leases1 (λ lease moment calls. StandsFor lease leases2 moment (map (without_all (withdrawn_ids t (held_by lease (max t moment) calls) x.waits x.rows)) calls))
