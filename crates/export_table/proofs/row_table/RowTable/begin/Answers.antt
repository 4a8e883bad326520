use Rattle.export_table.proofs.row_table.RowTable.begin.Goals as goal

pub invariant_of-self : goal.invariant_of-self
invariant_of-self c = c.begin.ensures.slots c.self.inside.added c.self.inside.gaps c.self.invariant
