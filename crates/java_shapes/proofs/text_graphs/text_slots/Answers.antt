use Rattle.std.proofs.Common.{[], arith}
use Rattle.java_shapes.proofs.TextsGraph.{slots_end, slots_step}
use Rattle.java_shapes.proofs.text_graphs.text_slots.Goals as goal

pub loop-name-preserved : goal.loop-name-preserved
loop-name-preserved c =
    let h = c.loop-name.invariant in
    record {
      place = omega (arith, h.place);
      rest = slots_step c.args.names.now c.loop-name._name-index [] c.loop-name.at c.loop-name.list c.push.new.self _ c.loop-name-test.true h.place c.in_ok-push.ensures.ok h.rest;
    }

pub returns : goal.returns
returns c = slots_end c.args.names.now c.loop-name._name-index c.loop-name.at c.loop-name.list _ c.loop-name-test.false c.loop-name.invariant.rest
