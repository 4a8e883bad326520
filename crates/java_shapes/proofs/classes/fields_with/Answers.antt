use Rattle.std.proofs.Common.{arith, length}
use Rattle.java_shapes.proofs.Growth.{fields_step, fields_end, either_ends}
use Rattle.java_shapes.proofs.classes.fields_with.Goals as goal

pub loop-at-preserved : goal.loop-at-preserved
loop-at-preserved c = record {
  all = c.loop-at.invariant.all;
  rest = fields_step c.args.fields.now c.args.texts.now c.loop-at.at c.index-fields-at.result _ c.loop-at.list c.push.new.self c.in_ok-field_with.field-0 _ (omega arith) (omega arith)
      c.index-fields-at.is c.in_ok-field_with.ensures c.in_ok-push.ensures.ok c.loop-at.invariant.rest;
}

pub returns : goal.returns
returns c = fields_end c.args.fields.now c.args.texts.now c.loop-at.at c.loop-at.list _ (either_ends (length c.args.fields.now) (length c.args.texts.now) c.loop-at.at (omega arith)) c.loop-at.invariant.rest
