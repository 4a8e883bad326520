use Rattle.std.proofs.Common.{◌≡◌, ◌<◌, length, max, refl, rules, ap, ◌∙◌, arith}
use Rattle.std.specs.Prelude.{vec_len}
use Rattle.std.proofs.lemmas.List.{length-set}
use Rattle.dgc_server.proofs.Over.{over_more}
use Rattle.export_table.specs.ExportRows.{is_row_kept, held_by}
use Rattle.export_table.specs.Slots.{as_marked}
use Rattle.export_table.proofs.Marking.{marks-none, marks-next, marks-both, marks-end}
use Rattle.export_table.proofs.slots.mark_all.Goals as goal

pub loop-i-init : goal.loop-i-init
loop-i-init c = record {
  marks = λ lease moment calls s. refl;
  any = marks-none c.args.slots.now.items;
  same = refl;
  long = refl;
  capacity = refl;
}

pub loop-i-preserved : goal.loop-i-preserved
loop-i-preserved c =
    let inv = c.loop-i.invariant in
    let within = c.loop-i-test.true in let all = c.len-i-end.ensures in let same = inv.same in
    let before : vec_len c.args.slots.now ≡ length c.args.slots.now.items = search rules in
    let there : c.loop-i.i < length c.args.slots.now.items = omega arith in
    let here : c.loop-i.i < length c.loop-i.slots.items = omega arith in record {
      marks = λ lease moment calls s.
          over_more (as_marked (is_row_kept c.args.now (held_by lease (max c.args.now moment) calls) c.args.waits.now.waits)) c.args.slots.now.items c.loop-i.slots.items c.loop-i.i c.index_mut.result.now c.mark.new.self there inv.same
          (inv.marks lease moment calls s)
          (c.mark.ensures.marks lease moment calls s ∙ ap (as_marked (is_row_kept c.args.now (held_by lease (max c.args.now moment) calls) c.args.waits.now.waits)) c.index_mut.ensures.value);
      any = marks-both c.args.slots.now.items c.loop-i.slots.items _ inv.any (marks-next c.loop-i.slots.items c.loop-i.i c.index_mut.result.now c.mark.new.self here c.index_mut.ensures.value c.mark.ensures.any);
      same = length-set c.loop-i.slots.items c.loop-i.i c.mark.new.self ∙ inv.same;
      long = inv.long;
      capacity = inv.capacity;
    }

pub returns-clause-marks : goal.returns-clause-marks
returns-clause-marks c lease moment calls s =
    let far = c.loop-i-test.false in let all = c.len-i-end.ensures in
    let before : vec_len c.args.slots.now ≡ length c.args.slots.now.items = search rules in
    marks-end (is_row_kept c.args.now (held_by lease (max c.args.now moment) calls) c.args.waits.now.waits) c.args.slots.now.items c.loop-i.slots.items c.loop-i.i (omega arith) (c.loop-i.invariant.marks lease moment calls s)

pub returns-clause-any : goal.returns-clause-any
returns-clause-any c = c.loop-i.invariant.any
