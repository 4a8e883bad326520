use Rattle.std.proofs.Common.{List, ◌+◌, ◌++◌, ◌∷◌, [], ap, sym, subst, ◌∙◌}
use Rattle.std.specs.Prelude.{pos}
use Rattle.export_table.specs.declared.slots.Slot.{Slot}
use Rattle.export_table.specs.Slots.{RowsHeld, AreSlots, rows_here}
use Rattle.export_table.proofs.Held.{held-added}
use Rattle.export_table.proofs.Slotted.{slots-added, added-rows-here}
use Rattle.export_table.proofs.row_table.RowTable.put.Goals as goal

pub invariant_of-self : goal.invariant_of-self
invariant_of-self c =
    let P : List Slot → Type 0 = λ l. AreSlots l (c.self.inside.added + 1) c.self.inside.gaps in
    subst P (sym (c.put.ensures.items ∙ ap (λ (t : Slot). c.self.inside.slots.items ++ t ∷ []) c.new.ensures))
    (slots-added c.self.inside.slots.items c.self.inside.added c.self.inside.gaps c.args.row (c.requires.number ∙ ap (λ (t : RowsHeld). pos (16 + t.added)) (sym c.self.view_is)) c.self.invariant)

pub returns-clause-rows : goal.returns-clause-rows
returns-clause-rows c =
    held-added _ _ _ _ _ c.args.row c.args.self.now
    (ap rows_here (c.put.ensures.items ∙ ap (λ (t : Slot). c.self.inside.slots.items ++ t ∷ []) c.new.ensures) ∙ added-rows-here c.self.inside.slots.items c.args.row) c.self.view_is
