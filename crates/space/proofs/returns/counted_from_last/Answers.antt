use Rattle.std.proofs.Common.{◌≡◌, ◌+◌, ap, sym, ◌∙◌, arith}
use Rattle.std.specs.Prelude.{not, if◌then◌else◌}
use Rattle.indexmap.specs.IndexSet.{contains}
use Rattle.object_ids.specs.declared.ids.ObjId.{ObjId}
use Rattle.object_ids.specs.Same.{same_key}
use Rattle.export_table.specs.Waits.{is_waiting}
use Rattle.dgc_server.proofs.MarkLaws.{counting-step, seen-step}
use Rattle.space.proofs.returns.counted_from_last.Goals as goal

pub loop-i-preserved-then-branch : goal.loop-i-preserved-then-branch
loop-i-preserved-then-branch c =
    let p = λ (o : ObjId). not (is_waiting c.args.now o c.args.uid.now c.args.exports.now.waits) in
    let inv = c.loop-i.invariant in
    let within = c.loop-i.invariant.within in
    let test = c.loop-i-test.true in record {
      counted = ap (λ b. c.loop-i.count + (if b then 1 else 0)) (sym c.if-branch.true)
          ∙ counting-step p c.args.live.now c.loop-i.i _ (contains same_key c.loop-i.seen) c.loop-i.count c.in_ok-is_first_new_wait.field-0 test (omega arith) inv.seen inv.counted c.in_ok-is_first_new_wait.ensures.value;
      seen = seen-step c.args.live.now c.loop-i.i _ (contains same_key c.loop-i.seen) (contains same_key c.is_first_new_wait.new.seen) test (omega arith) inv.seen c.in_ok-is_first_new_wait.ensures.seen;
      within = omega arith;
    }

pub loop-i-preserved : goal.loop-i-preserved
loop-i-preserved c =
    let p = λ (o : ObjId). not (is_waiting c.args.now o c.args.uid.now c.args.exports.now.waits) in
    let inv = c.loop-i.invariant in
    let within = c.loop-i.invariant.within in
    let test = c.loop-i-test.true in
    let plain : c.loop-i.count + 0 ≡ c.loop-i.count = omega arith in record {
      counted = sym plain ∙ ap (λ b. c.loop-i.count + (if b then 1 else 0)) (sym c.if-branch.false)
          ∙ counting-step p c.args.live.now c.loop-i.i _ (contains same_key c.loop-i.seen) c.loop-i.count c.in_ok-is_first_new_wait.field-0 test (omega arith) inv.seen inv.counted c.in_ok-is_first_new_wait.ensures.value;
      seen = seen-step c.args.live.now c.loop-i.i _ (contains same_key c.loop-i.seen) (contains same_key c.is_first_new_wait.new.seen) test (omega arith) inv.seen c.in_ok-is_first_new_wait.ensures.seen;
      within = omega arith;
    }
