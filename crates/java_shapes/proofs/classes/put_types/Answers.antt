use Rattle.std.proofs.Common.{arith}
use Rattle.java_shapes.proofs.Growth.{grows_then, types_grown, types_step}
use Rattle.java_shapes.proofs.classes.put_types.Goals as goal

pub loop-field-preserved : goal.loop-field-preserved
loop-field-preserved c =
    let put = c.in_ok-put_type.ensures in
    record {
      grown = grows_then c.loop-field.invariant.grown put.0 (omega arith);
      named = types_step c.put_type.new.b c.args.fields.now c.loop-field.field-index c.field-item.result c.loop-field.texts c.push.new.self c.in_ok-put_type.field-0 c.loop-field-test.true c.field-item.is
          (types_grown put.0 _ c.loop-field.texts c.loop-field.invariant.named) put.1 c.in_ok-push.ensures.ok;
    }
