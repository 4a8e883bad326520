use Rattle.std.proofs.Common.{max, inl, inr, refl, sym, ◌∙◌}
use Rattle.export_table.specs.ExportRows.{is_row_kept, held_by}
use Rattle.export_table.proofs.Marking.{stays-marked, away-marked, goes-marked}
use Rattle.export_table.proofs.slots.Slot.mark.Goals as goal

pub returns-then-not-is_here-clause-marks : goal.returns-then-not-is_here-clause-marks
returns-then-not-is_here-clause-marks c lease moment calls s =
    sym (away-marked (is_row_kept c.args.now (held_by lease (max c.args.now moment) calls) c.args.waits.now.waits) c.args.self.now (sym c.is_here.ensures ∙ c.if-not-is_here.true))

pub returns-then-not-is_here-clause-any : goal.returns-then-not-is_here-clause-any
returns-then-not-is_here-clause-any c = inl refl

pub returns-then-is_row_kept-clause-marks : goal.returns-then-is_row_kept-clause-marks
returns-then-is_row_kept-clause-marks c lease moment calls s =
    sym (stays-marked (is_row_kept c.args.now (held_by lease (max c.args.now moment) calls) c.args.waits.now.waits) c.args.self.now (sym (c.is_row_kept.ensures lease moment calls s) ∙ c.if-is_row_kept.true))

pub returns-then-is_row_kept-clause-any : goal.returns-then-is_row_kept-clause-any
returns-then-is_row_kept-clause-any c = inl refl

pub returns-clause-marks : goal.returns-clause-marks
returns-clause-marks c lease moment calls s =
    sym (goes-marked (is_row_kept c.args.now (held_by lease (max c.args.now moment) calls) c.args.waits.now.waits) c.args.self.now (sym c.is_here.ensures ∙ c.if-not-is_here.false)
    (sym (c.is_row_kept.ensures lease moment calls s) ∙ c.if-is_row_kept.false))

pub returns-clause-any : goal.returns-clause-any
returns-clause-any c = inr (sym c.is_here.ensures ∙ c.if-not-is_here.false, refl)
