use Rattle.space.proofs.ReferenceLaws.{awaits-next}
use Rattle.space.proofs.acts.await_all.Goals as goal

pub loop-object-preserved : goal.loop-object-preserved
loop-object-preserved c =
    let before = c.loop-object.invariant in
    let next = awaits-next c.args.exports.now c.args.now c.args.uid.now c.args.objects.now c.loop-object.object-index _ c.loop-object.exports c.wait_for.new.self c.wait_for.result
    (record { value = before.value; waits = before.waits; once = before.once; few = before.few; room = before.room }) c.loop-object-test.true c.requires.some
    c.wait_for.ensures.ok c.wait_for.ensures.full.0 c.wait_for.ensures.memory c.wait_for.ensures.faults c.wait_for.ensures.waits_room in
    record { value = next.value; waits = next.waits; once = next.once; few = next.few; room = next.room }
