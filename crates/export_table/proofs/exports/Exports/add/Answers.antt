use Rattle.std.proofs.Common.{ℕ, ◌<◌, ◌+◌, ◌++◌, List, [], ◌∷◌, length, ap, sym, subst, ◌∙◌, arith}
use Rattle.std.specs.Prelude.{pos}
use Rattle.object_ids.specs.declared.ids.ObjId.{ObjId}
use Rattle.history.specs.declared.limits.TheConstants.{MAX_EXPORTS}
use Rattle.history.specs.Places.{id_at}
use Rattle.export_table.specs.declared.rows.Export.{Export}
use Rattle.export_table.specs.ExportRows.{new_row}
use Rattle.export_table.specs.Slots.{RowsHeld}
use Rattle.export_table.specs.Table.{ExportTable, IsSound}
use Rattle.export_table.proofs.Sound.{sound-added}
use Rattle.export_table.proofs.exports.Exports.add.Goals as goal

pub put-requires-clause-number : goal.put-requires-clause-number
put-requires-clause-number c =
    ap (λ (x : Export). x.id.number) c.new.ensures ∙ ap (λ (o : ObjId). o.number) c.id_at-id.ensures ∙ ap (λ (n : ℕ). pos (16 + n)) c.added_count.ensures

pub put-requires-clause-early : goal.put-requires-clause-early
put-requires-clause-early c =
    let early = c.requires in let added = ap (λ (t : ExportTable). t.added) c.self.view_is in let same = ap (λ (t : RowsHeld). t.added) c.in_ok-reserve.ensures.rest in
    omega (arith, added, same)

pub invariant_of-self-2 : goal.invariant_of-self-2
invariant_of-self-2 c =
    let before = c.self.inside.rows.rows in
    let early = c.requires in let added = ap (λ (t : ExportTable). t.added) c.self.view_is in
    let few = c.if-count-ge-MAX_EXPORTS.false in let counted = c.count.ensures in
    let room : length before < MAX_EXPORTS = omega arith in
    let k = ap (λ (t : RowsHeld). t.added) c.in_ok-reserve.ensures.rest in
    let P : List Export → Type 0 = λ l. IsSound c.self.inside.space c.self.inside.ack (c.self.inside.rows.added + 1) l c.self.inside.waits.waits in
    let Q : ℕ → Type 0 = λ n. IsSound c.self.inside.space c.self.inside.ack n c.put.new.self.rows c.self.inside.waits.waits in
    subst Q (sym (ap (λ (t : RowsHeld). t.added) c.put.ensures.rows ∙ ap (λ (n : ℕ). n + 1) k))
    (subst P
    (sym (
    ap (λ (t : RowsHeld). t.rows) c.put.ensures.rows
    ∙ ap (λ (t : RowsHeld). t.rows ++ c.new.result ∷ []) c.in_ok-reserve.ensures.rest
    ∙ ap (λ x. before ++ x ∷ [])
    (c.new.ensures ∙ ap (λ (o : ObjId). new_row o c.args.kind c.args.pinned) (c.id_at-id.ensures ∙ ap (λ (n : ℕ). id_at c.self.inside.space n) (c.added_count.ensures ∙ k)))))
    (sound-added c.self.inside.space c.self.inside.ack c.self.inside.rows.added before c.self.inside.waits.waits c.args.kind c.args.pinned (omega arith) room c.self.invariant))
