use Rattle.std.proofs.Common.{◌≡◌, length, rules, ap, arith}
use Rattle.std.specs.Prelude.{vec_len}
use Rattle.export_table.specs.Slots.{RowsHeld}
use Rattle.export_table.proofs.Slotted.{rows-counted}
use Rattle.export_table.proofs.row_table.RowTable.count.Goals as goal

pub overflow_sub-result : goal.overflow_sub-result
overflow_sub-result c =
    let counted = rows-counted c.self.inside.slots.items c.self.inside.added c.self.inside.gaps c.self.invariant in
    let len : vec_len c.self.inside.slots ≡ length c.self.inside.slots.items = search rules in let all = c.len.ensures in
    omega (arith, counted)

pub returns : goal.returns
returns c =
    let counted = rows-counted c.self.inside.slots.items c.self.inside.added c.self.inside.gaps c.self.invariant in
    let len : vec_len c.self.inside.slots ≡ length c.self.inside.slots.items = search rules in let all = c.len.ensures in
    let view = ap (λ (t : RowsHeld). length t.rows) c.self.view_is in
    omega (arith, counted, view)
