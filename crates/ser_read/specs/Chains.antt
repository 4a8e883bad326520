-- The chain of a class, step by step.
use Rattle.std.specs.Prelude.{Bool, true, false, ◌&&◌, List, [], ◌∷◌, ◌++◌}
use Rattle.class_desc.specs.declared.slot.Slot.{Slot}
use Rattle.stream_grammar.specs.Reading.{Row}
use Rattle.ser_read.specs.declared.row.ClassRow.{ClassRow}
use Rattle.ser_read.specs.declared.shape.Climb.{Climb}
use Rattle.ser_read.specs.declared.shape.Climb.TheVariants.{Top, NoClass, Class}
use Rattle.ser_read.specs.ObjectRows.{class_rows}

-- the rows by the types of their fields
abbrev pub shown : List Row × Bool → List ClassRow × Bool
shown chain = (class_rows chain.0, chain.1)

-- a chain, from what one step up finds and the chains above
abbrev pub climb_by : (Slot → List Row × Bool) → Climb → List ClassRow × Bool
climb_by above Top = ([], true)
climb_by above NoClass = ([], false)
climb_by above (Class row serial parent) = ((shown (above parent)).0 ++ row ∷ [], (above parent).1 && serial)
