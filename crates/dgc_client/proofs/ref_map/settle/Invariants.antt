use Rattle.std.proofs.Common.{length, ◌-◌}
use Rattle.dgc_client.specs.RefMap.{AreSettled}
use Rattle.dgc_client.proofs.ref_map.settle.Given as goal

abbrev pub invariant-loop-object : goal.invariant-loop-object
invariant-loop-object l = AreSettled l.count l.entries

abbrev pub decreases-loop-object : goal.decreases-loop-object
decreases-loop-object l = length l.entries - l.count
