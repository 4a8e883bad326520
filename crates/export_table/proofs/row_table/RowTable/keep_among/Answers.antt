use Rattle.std.proofs.Common.{◌≡◌, ◌+◌, ◌-◌, ◌<◌, ◌^◌, ◌++◌, List, length, max, rules, ap, subst, ◌∙◌, arith}
use Rattle.std.specs.Prelude.{vec_len, not, filter}
use Rattle.object_ids.specs.declared.ids.ObjId.{ObjId}
use Rattle.export_table.specs.ExportRows.{ids, stays_among, held_by, IsPart}
use Rattle.export_table.specs.Slots.{RowsHeld, rows_here}
use Rattle.export_table.proofs.Slotted.{rows-counted}
use Rattle.export_table.proofs.Sweeping.{kept-rows, kept-gone, kept-part, kept-slots}
use Rattle.export_table.proofs.row_table.RowTable.keep_among.Goals as goal

pub overflow_add-self : goal.overflow_add-self
overflow_add-self c =
    let told = c.sweep.ensures.len in let first = c.len-told.ensures in let last = c.len.ensures in
    let slots = kept-slots c.self.inside.slots.items c.mark_among-span.new.slots.items c.sweep.new.slots.items c.self.inside.added c.self.inside.gaps (c.len.result - c.len-told.result) c.self.invariant c.mark_among-span.ensures.any c.sweep.ensures.slots (omega (arith, told)) in
    let counted = rows-counted c.sweep.new.slots.items c.self.inside.added (c.self.inside.gaps + (c.len.result - c.len-told.result)) slots in
    let len : vec_len c.sweep.new.slots ≡ length c.sweep.new.slots.items = search rules in
    let small : vec_len c.sweep.new.slots < 2 ^ 64 = search rules in
    omega (arith, counted)

pub invariant_of-self : goal.invariant_of-self
invariant_of-self c =
    let told = c.sweep.ensures.len in let first = c.len-told.ensures in let last = c.len.ensures in
    kept-slots c.self.inside.slots.items c.mark_among-span.new.slots.items c.sweep.new.slots.items c.self.inside.added c.self.inside.gaps (c.len.result - c.len-told.result) c.self.invariant c.mark_among-span.ensures.any c.sweep.ensures.slots (omega (arith, told))

pub returns-clause-rows : goal.returns-clause-rows
returns-clause-rows c lease moment calls s =
    let held = held_by lease (max c.args.now moment) calls in
    kept-rows (stays_among c.args.objects.now c.args.now held c.args.waits.now.waits) c.self.inside.slots.items c.mark_among-span.new.slots.items c.sweep.new.slots.items (c.mark_among-span.ensures.marks lease moment calls s) c.sweep.ensures.slots
    ∙ ap (λ (t : RowsHeld). filter (stays_among c.args.objects.now c.args.now held c.args.waits.now.waits) t.rows) c.self.view_is

pub returns-clause-gone : goal.returns-clause-gone
returns-clause-gone c lease moment calls s =
    let held = held_by lease (max c.args.now moment) calls in
    c.sweep.ensures.gone
    ∙ ap (λ (l : List ObjId). c.args.gone.now.items ++ l)
    (kept-gone (stays_among c.args.objects.now c.args.now held c.args.waits.now.waits) c.self.inside.slots.items c.mark_among-span.new.slots.items c.self.invariant.settled (c.mark_among-span.ensures.marks lease moment calls s))
    ∙ ap (λ (t : RowsHeld). c.args.gone.now.items ++ ids (filter (λ x. not (stays_among c.args.objects.now c.args.now held c.args.waits.now.waits x)) t.rows)) c.self.view_is

pub returns-clause-part : goal.returns-clause-part
returns-clause-part c =
    let P : RowsHeld → Type 0 = λ t. IsPart (rows_here c.sweep.new.slots.items) t.rows in
    subst P c.self.view_is (kept-part c.self.inside.slots.items c.mark_among-span.new.slots.items c.sweep.new.slots.items c.mark_among-span.ensures.any c.sweep.ensures.slots)
