use Rattle.std.proofs.Common.{◌≡◌, List, refl, ap, sym, ◌∙◌, rules}
use Rattle.std.specs.Prelude.{false}
use Rattle.export_table.specs.declared.rows.Export.{Export}
use Rattle.export_table.specs.ExportRows.{is_exported, with_row_changed, with_call_begun}
use Rattle.export_table.specs.Table.{ExportTable}
use Rattle.export_table.proofs.Places.{changed-none}
use Rattle.export_table.proofs.Sound.{sound-changed}
use Rattle.export_table.proofs.exports.Exports.begin.Goals as goal

pub invariant_of-self : goal.invariant_of-self
invariant_of-self c =
    rw c.begin.ensures.rows (sound-changed c.self.inside.space c.self.inside.ack c.self.inside.rows.added c.self.inside.rows.rows c.self.inside.waits.waits with_call_begun c.args.id (λ x. refl) c.self.invariant)

-- Two tables are one by a third.
by_way_of : (u : ExportTable) {t v : ExportTable} → t ≡ u → u ≡ v → t ≡ v
by_way_of u a b = a ∙ b

pub returns-clause-absent : goal.returns-clause-absent
returns-clause-absent c h =
    let none : is_exported c.args.self.now.rows c.args.id ≡ false = ap (λ (t : ExportTable). is_exported t.rows c.args.id) (sym c.self.view_is) ∙ sym c.begin.ensures.value ∙ h in
    by_way_of (record c.args.self.now { rows = with_row_changed with_call_begun c.args.id c.args.self.now.rows }) (search rules)
    (ap (λ (l : List Export). record c.args.self.now { rows = l }) (changed-none with_call_begun c.args.id c.args.self.now.rows none))
