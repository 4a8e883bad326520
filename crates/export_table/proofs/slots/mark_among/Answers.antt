use Rattle.std.proofs.Common.{refl, List, map, max, length, ap, ◌∙◌, arith}
use Rattle.std.specs.List.{list_any}
use Rattle.std.proofs.lemmas.List.{take_all}
use Rattle.object_ids.specs.declared.ids.ObjId.{ObjId}
use Rattle.export_table.specs.declared.rows.Export.{Export}
use Rattle.export_table.specs.ExportRows.{ids, is_rising, stays_among, held_by}
use Rattle.export_table.specs.Slots.{is_leaving, as_marked}
use Rattle.export_table.proofs.Slotted.{nothing-passes}
use Rattle.export_table.proofs.Marking.{marks-none, marks-both, marks-start, marks-more, marked-rows}
use Rattle.export_table.proofs.slots.mark_among.Goals as goal

pub loop-object-init : goal.loop-object-init
loop-object-init c =
    let all = c.len.ensures in record {
      marks = λ lease moment calls s. marks-start c.args.now (held_by lease (max c.args.now moment) calls) c.args.waits.now.waits c.args.slots.now.items;
      any = marks-none c.args.slots.now.items;
      front = ap (list_any is_leaving) (take_all c.len.result c.args.slots.now.items (omega arith)) ∙ c.requires.settled;
      back = c.requires.settled;
      within = omega arith;
      index = omega arith;
      slots_len = refl;
      slots_capacity = refl;
      few = (let none = ap length (nothing-passes is_leaving c.args.slots.now.items c.requires.settled) in omega (arith, none));
    }

pub mark_one-requires-clause-rising : goal.mark_one-requires-clause-rising
mark_one-requires-clause-rising c =
    ap (λ (l : List Export). is_rising (ids l)) (marked-rows c.args.slots.now.items c.loop-object.slots.items c.loop-object.invariant.any) ∙ c.requires.rising

pub loop-object-preserved : goal.loop-object-preserved
loop-object-preserved c =
    let inv = c.loop-object.invariant in record {
      marks = λ lease moment calls s.
          marks-more c.args.objects.now c.loop-object.object-index _ c.args.now (held_by lease (max c.args.now moment) calls) c.args.waits.now.waits c.args.slots.now.items c.loop-object.slots.items c.mark_one.new.slots.items c.loop-object-test.true
          (inv.marks lease moment calls s) (c.mark_one.ensures.marks lease moment calls s);
      any = marks-both c.args.slots.now.items c.loop-object.slots.items c.mark_one.new.slots.items inv.any c.mark_one.ensures.any;
      front = c.mark_one.ensures.front inv.front;
      back = c.mark_one.ensures.back inv.back;
      within = c.mark_one.ensures.within;
      index = (let within = c.loop-object-test.true in omega arith);
      slots_len = c.mark_one.ensures.slots_len ∙ inv.slots_len;
      slots_capacity = c.mark_one.ensures.slots_capacity ∙ inv.slots_capacity;
      few = (let one = c.mark_one.ensures.few in let so = inv.few in omega arith);
    }

pub returns-clause-marks : goal.returns-clause-marks
returns-clause-marks c lease moment calls s =
    c.loop-object.invariant.marks lease moment calls s
    ∙ ap (λ (os : List ObjId). map (as_marked (stays_among os c.args.now (held_by lease (max c.args.now moment) calls) c.args.waits.now.waits)) c.args.slots.now.items)
    (take_all c.loop-object.object-index c.args.objects.now c.loop-object-test.false)

pub returns-clause-any : goal.returns-clause-any
returns-clause-any c = c.loop-object.invariant.any

pub returns-clause-front : goal.returns-clause-front
returns-clause-front c = c.loop-object.invariant.front

pub returns-clause-back : goal.returns-clause-back
returns-clause-back c = c.loop-object.invariant.back

pub returns-clause-within : goal.returns-clause-within
returns-clause-within c = c.loop-object.invariant.within

pub mark_one-requires-clause-within : goal.mark_one-requires-clause-within
mark_one-requires-clause-within c = c.loop-object.invariant.within

pub returns-clause-few : goal.returns-clause-few
returns-clause-few c = let few = c.loop-object.invariant.few in let index = c.loop-object.invariant.index in omega (arith, few, index)
