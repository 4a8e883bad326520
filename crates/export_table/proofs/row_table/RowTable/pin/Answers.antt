use Rattle.export_table.proofs.row_table.RowTable.pin.Goals as goal

pub invariant_of-self : goal.invariant_of-self
invariant_of-self c = c.pin.ensures.slots c.self.inside.added c.self.inside.gaps c.self.invariant
