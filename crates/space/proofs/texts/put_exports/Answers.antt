use Rattle.std.proofs.Common.{◌≡◌, ◌++◌, List, max, flat_map, subst, ◌∙◌}
use Rattle.std.specs.Prelude.{OnOk}
use Rattle.history.specs.Outline.{object_line}
use Rattle.dgc_server.specs.StandsForCalls.{ForEachLog}
use Rattle.export_table.specs.declared.rows.ExportRow.{ExportRow}
use Rattle.space.specs.OutlineRows.{held_row}
use Rattle.space.proofs.texts.put_exports.Goals as goal

pub returns : goal.returns
returns c =
    let P : List ExportRow → Type 0 = λ rows. OnOk c.put_objects.result (ForEachLog c.args.tables.now.leases (λ lease moment calls.
    c.put_objects.new.text ≡ c.args.text.now ++ flat_map (λ x. object_line c.args.tables.now.config (held_row lease (max c.args.tables.now.moment moment) calls x)) rows)) in
    subst P (c.as_slice.ensures ∙ c.in_ok-rows.ensures) c.put_objects.ensures
