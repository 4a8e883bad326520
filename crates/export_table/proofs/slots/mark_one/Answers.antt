use Rattle.std.proofs.Common.{refl, inr, ◌+◌, ◌≤◌, List, length, max, ap, sym, subst, ◌∙◌, arith}
use Rattle.std.specs.Prelude.{slice_set, filter}
use Rattle.std.proofs.lemmas.List.{length-set}
use Rattle.export_table.specs.declared.slots.Slot.{Slot}
use Rattle.export_table.specs.ExportRows.{is_exported, is_row_kept, held_by}
use Rattle.export_table.specs.Slots.{rows_here, is_here, is_leaving, as_leaving, IsSlotOf}
use Rattle.export_table.proofs.Marking.{marks-none, marks-next, marks-absent, marks-kept, marks-one, front-marked, back-marked, one-more}
use Rattle.export_table.proofs.Slotted.{read-once}
use Rattle.export_table.proofs.slots.mark_one.Goals as goal

pub returns-in-None-clause-marks : goal.returns-in-None-clause-marks
returns-in-None-clause-marks c lease moment calls s =
    marks-absent c.args.slots.now.items c.args.object.now c.args.now (held_by lease (max c.args.now moment) calls) c.args.waits.now.waits (ap (λ (l : List Slot). is_exported (rows_here l) c.args.object.now) (sym c.deref.ensures.value) ∙ c.in-None.ensures)

pub returns-in-None-clause-any : goal.returns-in-None-clause-any
returns-in-None-clause-any c = marks-none c.args.slots.now.items

pub returns-then-is_row_kept-clause-marks : goal.returns-then-is_row_kept-clause-marks
returns-then-is_row_kept-clause-marks c lease moment calls s =
    let Q : List Slot → Type 0 = λ l. IsSlotOf l c.args.object.now c.in-Some.place in
    marks-kept c.args.slots.now.items c.args.object.now c.in-Some.place c.index.result.now c.args.now (held_by lease (max c.args.now moment) calls) c.args.waits.now.waits c.requires.rising (subst Q c.deref.ensures.value c.in-Some.ensures) c.index.ensures
    (sym (c.is_row_kept.ensures lease moment calls s) ∙ c.if-is_row_kept.true)

pub returns-then-is_row_kept-clause-any : goal.returns-then-is_row_kept-clause-any
returns-then-is_row_kept-clause-any c = marks-none c.args.slots.now.items

pub returns-clause-marks : goal.returns-clause-marks
returns-clause-marks c lease moment calls s =
    let held = held_by lease (max c.args.now moment) calls in
    let Q : List Slot → Type 0 = λ l. IsSlotOf l c.args.object.now c.in-Some.place in
    let place = subst Q c.deref.ensures.value c.in-Some.ensures in
    let same = read-once c.args.slots.now.items c.in-Some.place c.index_mut.result.now c.index.result.now place.within c.index_mut.ensures.value c.index.ensures in
    marks-one c.args.slots.now.items c.args.object.now c.in-Some.place c.index_mut.result.now c.args.now held c.args.waits.now.waits c.requires.rising place c.index_mut.ensures.value
    (ap (λ (t : Slot). is_row_kept c.args.now held c.args.waits.now.waits t.row) same ∙ sym (c.is_row_kept.ensures lease moment calls s) ∙ c.if-is_row_kept.false)

pub returns-clause-any : goal.returns-clause-any
returns-clause-any c =
    let Q : List Slot → Type 0 = λ l. IsSlotOf l c.args.object.now c.in-Some.place in
    let place = subst Q c.deref.ensures.value c.in-Some.ensures in
    marks-next c.args.slots.now.items c.in-Some.place c.index_mut.result.now (as_leaving c.index_mut.result.now) place.within c.index_mut.ensures.value (inr (ap is_here c.index_mut.ensures.value ∙ place.stands c.index_mut.result.now, refl))

pub returns-clause-few : goal.returns-clause-few
returns-clause-few c =
    let P : Slot → Type 0 = λ t. length (filter is_leaving (slice_set c.args.slots.now.items c.in-Some.place (as_leaving t))) ≤ length (filter is_leaving c.args.slots.now.items) + 1 in
    subst P (sym c.index_mut.ensures.value) (one-more c.args.slots.now.items c.in-Some.place c.index_mut.result.now)

pub returns-clause-front : goal.returns-clause-front
returns-clause-front c h =
    front-marked c.args.slots.now.items c.args.span.now.first c.widen.new.self.first c.in-Some.place (as_leaving c.index_mut.result.now) h c.widen.ensures.first c.widen.ensures.from

pub returns-clause-back : goal.returns-clause-back
returns-clause-back c h =
    back-marked c.args.slots.now.items c.args.span.now.upto c.widen.new.self.upto c.in-Some.place (as_leaving c.index_mut.result.now) h c.widen.ensures.upto c.widen.ensures.behind

pub returns-clause-within : goal.returns-clause-within
returns-clause-within c =
    let Q : List Slot → Type 0 = λ l. IsSlotOf l c.args.object.now c.in-Some.place in
    let place = subst Q c.deref.ensures.value c.in-Some.ensures in
    let long = length-set c.args.slots.now.items c.in-Some.place (as_leaving c.index_mut.result.now) in
    let far = c.widen.ensures.within (length c.args.slots.now.items) c.requires.within place.within in omega (arith, long, far)
