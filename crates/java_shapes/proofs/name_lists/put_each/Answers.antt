use Rattle.std.proofs.Common.{arith}
use Rattle.java_shapes.proofs.Growth.{grows_then}
use Rattle.java_shapes.proofs.Built.{texts_grown, texts_step}
use Rattle.java_shapes.proofs.name_lists.put_each.Goals as goal

pub loop-name-preserved : goal.loop-name-preserved
loop-name-preserved c =
    let put = c.in_ok-put_copy.ensures in
    record {
      grown = grows_then c.loop-name.invariant.grown put.0 (omega arith);
      are = texts_step c.put_copy.new.b c.args.names.now c.loop-name.name-index c.name-item.result c.loop-name.texts c.push.new.self c.in_ok-put_copy.field-0 c.loop-name-test.true c.name-item.is
          (texts_grown put.0 _ c.loop-name.texts c.loop-name.invariant.are) put.1 c.in_ok-push.ensures.ok;
    }
