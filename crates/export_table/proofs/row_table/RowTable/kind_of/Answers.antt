use Rattle.std.proofs.Common.{ap, sym, ◌∙◌}
use Rattle.export_table.specs.ExportRows.{kind_of}
use Rattle.export_table.specs.Slots.{RowsHeld}
use Rattle.export_table.proofs.Slotted.{slot-kind, no-kind}
use Rattle.export_table.proofs.row_table.RowTable.kind_of.Goals as goal

pub returns-in-Some : goal.returns-in-Some
returns-in-Some c =
    sym (slot-kind c.self.inside.slots.items c.deref.result.now c.args.id.now c.in-Some.i c.index.result.now c.deref.ensures.value c.self.invariant.rising c.in-Some.ensures c.index.ensures)
    ∙ ap (λ (t : RowsHeld). kind_of t.rows c.args.id.now) c.self.view_is

pub returns-in-None : goal.returns-in-None
returns-in-None c =
    sym (no-kind c.self.inside.slots.items c.deref.result.now c.args.id.now c.deref.ensures.value c.in-None.ensures)
    ∙ ap (λ (t : RowsHeld). kind_of t.rows c.args.id.now) c.self.view_is
