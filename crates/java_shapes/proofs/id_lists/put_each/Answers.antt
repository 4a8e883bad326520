use Rattle.std.proofs.Common.{arith, refl}
use Rattle.java_shapes.proofs.Growth.{grows_then}
use Rattle.java_shapes.proofs.BuiltIds.{ids_grown, ids_step}
use Rattle.java_shapes.proofs.id_lists.put_each.Goals as goal

pub loop-id-preserved : goal.loop-id-preserved
loop-id-preserved c =
    let put = c.in_ok-put_objid.ensures in
    record {
      grown = grows_then c.loop-id.invariant.grown put.0 (omega arith);
      are = ids_step c.put_objid.new.b c.args.id_class c.args.uid_class c.args.ids.now c.loop-id.id-index _ _ c.loop-id.objects c.push.new.self c.in_ok-put_objid.field-0 c.loop-id-test.true refl
          (ids_grown put.0 c.args.id_class c.args.uid_class _ c.loop-id.objects c.loop-id.invariant.are) put.1 c.in_ok-push.ensures.ok;
    }
