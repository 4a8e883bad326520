-- The rows of a chain, wherever they stand.
use Rattle.std.specs.Prelude.{List, [], ◌∷◌}
use Rattle.ser_read.specs.declared.row.ClassRow.{ClassRow}
use Rattle.ser_read.specs.declared.row.HeldRows.{HeldRows}
use Rattle.ser_read.specs.declared.row.HeldRows.TheVariants.{Empty, One, Many}

abbrev pub rows_in : HeldRows → List ClassRow
rows_in Empty = []
rows_in (One row) = row ∷ []
rows_in (Many rows) = rows.items
