use Rattle.std.proofs.Common.{◌++◌, ap, ◌∙◌}
use Rattle.export_table.specs.Table.{ExportTable}
use Rattle.space.specs.Acts.{new_rows}
use Rattle.space.proofs.LoopLaws.{there-after}
use Rattle.space.proofs.acts.end_with.Goals as goal

pub await_all-requires-clause-exported : goal.await_all-requires-clause-exported
await_all-requires-clause-exported c =
    there-after c.args.object.now c.args.exports.now.rows (new_rows c.args.exports.now.space c.args.exports.now.added c.args.returned.now.made.now) c.add_all.new.exports.rows c.args.returned.now.listed.now
    (ap (λ (t : ExportTable). t.rows) c.add_all.ensures.value ∙ ap (λ (t : ExportTable). t.rows ++ new_rows t.space t.added c.args.returned.now.made.now) c.end.ensures) c.requires.exported
