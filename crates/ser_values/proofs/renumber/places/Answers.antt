use Rattle.std.proofs.Common.{rules, ◌≡◌, ◌<◌, ◌+◌, ◌-◌, get_or, drop, length, arith}
use Rattle.std.proofs.lemmas.List.{length-set}
use Rattle.std.proofs.Math.Seq.{drop-length}
use Rattle.ser_values.specs.Renumber.{HasPlaces}
use Rattle.ser_values.proofs.Places.{placed_none, placed_step, head_below, below_drop, drop_one}
use Rattle.ser_values.proofs.renumber.places.Goals as goal

pub loop-i-init : goal.loop-i-init
loop-i-init c = record {
  within = omega arith;
  count = search (rules, c.in_ok-places.ensures.len);
  placed = placed_none (drop (length c.args.order.now) c.args.order.now) (length c.args.order.now) c.in_ok-places.places.items (drop-length c.args.order.now);
}

pub index_mut-requires : goal.index_mut-requires
index_mut-requires c =
    let e = drop_one c.args.order.now c.loop-i.i c.loop-i-test.true c.loop-i.invariant.within in
    let below = below_drop c.args.order.now (c.loop-i.i - 1) c.args.count c.requires.below in
    let lt = head_below _ _ c.args.count (rw e at below) in
    search (rules, lt, c.loop-i.invariant.count)

pub loop-i-preserved : goal.loop-i-preserved
loop-i-preserved c =
    let e = drop_one c.args.order.now c.loop-i.i c.loop-i-test.true c.loop-i.invariant.within in
    let below = below_drop c.args.order.now (c.loop-i.i - 1) c.args.count c.requires.below in
    let lt : get_or c.args.order.now (c.loop-i.i - 1) 0 < length c.loop-i.places.items = rw c.loop-i.invariant.count (head_below _ _ c.args.count (rw e at below)) in
    let i : (c.loop-i.i - 1) + 1 ≡ c.loop-i.i = let p = c.loop-i-test.true in omega arith in
    let before : HasPlaces (drop c.loop-i.i c.args.order.now) ((c.loop-i.i - 1) + 1) c.loop-i.places.items = rw i c.loop-i.invariant.placed in
    record {
      within = omega (arith, c.loop-i.invariant.within);
      count = rw length-set c.loop-i.invariant.count;
      placed = rw e (placed_step _ _ (c.loop-i.i - 1) c.loop-i.places.items lt before);
    }
