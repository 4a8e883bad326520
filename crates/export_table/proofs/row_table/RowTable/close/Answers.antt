use Rattle.std.proofs.Common.{List, ap, sym, subst, ◌∙◌}
use Rattle.export_table.specs.declared.slots.Slot.{Slot}
use Rattle.export_table.specs.Slots.{AreSlots, rows_here}
use Rattle.export_table.proofs.Held.{held-same}
use Rattle.export_table.proofs.Slotted.{slots-closed, closed-rows}
use Rattle.export_table.proofs.row_table.RowTable.close.Goals as goal

pub invariant_of-self : goal.invariant_of-self
invariant_of-self c =
    let P : List Slot → Type 0 = λ l. AreSlots l c.self.inside.added 0 in
    subst P (sym c.close.ensures.items) (slots-closed c.self.inside.slots.items c.self.inside.added c.self.inside.gaps c.self.invariant)

pub returns-then-self-len-clause-rest : goal.returns-then-self-len-clause-rest
returns-then-self-len-clause-rest c =
    held-same _ _ _ _ _ c.args.self.now (ap rows_here c.close.ensures.items ∙ closed-rows c.self.inside.slots.items) c.self.view_is
