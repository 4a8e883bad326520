use Rattle.std.proofs.Common.{arith}
use Rattle.std.proofs.lemmas.List.{length-set}
use Rattle.ser_values.specs.Renumber.{place_at}
use Rattle.ser_values.proofs.InPlace.{partly_next}
use Rattle.ser_values.proofs.renumber.renumber_each.Goals as goal

pub loop-i-preserved : goal.loop-i-preserved
loop-i-preserved g c = record {
  within = rw length-set (omega (arith, c.loop-i-test.true));
  told = partly_next (g.T.Renumber.by (place_at c.args.places.now)) c.args.values.now c.loop-i.values c.loop-i.i c.index-values-i.result c.renumber.new.self c.loop-i.invariant.told c.loop-i-test.true c.index-values-i.is (rw (← c.index-values-i.is) at c.renumber.ensures);
}
