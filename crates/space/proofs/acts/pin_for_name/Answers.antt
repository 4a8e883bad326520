use Rattle.std.proofs.Common.{◌≡◌, ◌<◌, true, sym, subst, ap}
use Rattle.export_table.specs.declared.rows.Export.{Export}
use Rattle.std.proofs.Common.{List}
use Rattle.export_table.specs.ExportRows.{is_exported, pins_of}
use Rattle.export_table.specs.Table.{ExportTable}
use Rattle.space.proofs.AskLaws.{still-pinned}
use Rattle.space.proofs.acts.pin_for_name.Goals as goal

pub unpin-requires : goal.unpin-requires
unpin-requires c o s =
    let P : List Export → Type 0 = λ rows. (is_exported rows o ≡ true) × 0 < pins_of rows o in
    subst P (sym (ap (λ (t : ExportTable). t.rows) c.pin.ensures)) (still-pinned c.args.exports.now.rows c.args.object.now o (c.requires.stands o s))
