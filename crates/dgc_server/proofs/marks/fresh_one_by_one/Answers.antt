use Rattle.std.proofs.Common.{arith, sym, ◌∙◌}
use Rattle.std.specs.Prelude.{not}
use Rattle.object_ids.specs.declared.ids.ObjId.{ObjId}
use Rattle.dgc_server.specs.Numbers.{is_remembered}
use Rattle.dgc_server.specs.Entry.{object_entries, numbers_of}
use Rattle.dgc_server.proofs.Fresh.{counted-then, counted-else}
use Rattle.dgc_server.proofs.marks.fresh_one_by_one.Goals as goal
use Rattle.dgc_server.proofs.marks.fresh_one_by_one.Goals.{then-is_fresh, else-is_fresh}

pub loop-i-preserved : goal.loop-i-preserved
loop-i-preserved c =
    let p = λ (o : ObjId). not (is_remembered c.args.left (numbers_of (object_entries c.args.objects.now.entries) o)) in
    let within = c.loop-i.invariant.within in
    elim c.if-is_fresh.branch [
      | then-is_fresh w ↦ record {
        counted = counted-then p c.args.named.now c.loop-i.i _ _ c.loop-i.count _ c.loop-i-test.true (sym w.if-is_fresh.true ∙ c.is_fresh.ensures) c.loop-i.invariant.counted w.count-is;
        within = omega (arith, w.count-is);
      }
      | else-is_fresh w ↦ record {
        counted = counted-else p c.args.named.now c.loop-i.i _ _ c.loop-i.count _ c.loop-i-test.true (sym w.if-is_fresh.false ∙ c.is_fresh.ensures) c.loop-i.invariant.counted w.count-is;
        within = omega (arith, w.count-is);
      }
    ]
