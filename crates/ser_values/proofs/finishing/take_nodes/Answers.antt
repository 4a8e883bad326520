use Rattle.std.proofs.Common.{◌∙◌, ap, slice_get}
use Rattle.ser_values.specs.Renumber.{place_at, node_or_by}
use Rattle.ser_values.proofs.InPlace.{map_next}
use Rattle.ser_values.proofs.Places.{next, other_than}
use Rattle.ser_values.proofs.finishing.take_nodes.Goals as goal

pub loop-number-preserved : goal.loop-number-preserved
loop-number-preserved c =
    let n = next c.args.order.now c.loop-number.number-index c.loop-number-test.true c.loop-number.invariant.once in
    let here = c.take_node.ensures.taken ∙ ap (λ o. node_or_by (place_at c.args.places.now) o) (c.loop-number.invariant.kept _ n.here) in
    record {
      once = n.once;
      kept = λ j h. c.take_node.ensures.kept j (other_than _ _ _ h n.apart) ∙ c.loop-number.invariant.kept j (n.later j h);
      made = map_next (λ j. node_or_by (place_at c.args.places.now) (slice_get c.args.nodes.now j)) c.loop-number.taken.items c.push.new.self.items c.args.order.now c.loop-number.number-index c.take_node.result c.loop-number-test.true c.loop-number.invariant.made here c.in_ok-push.ensures.items;
    }
