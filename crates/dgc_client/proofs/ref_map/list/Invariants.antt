use Rattle.std.proofs.Common.{◌≡◌, ◌++◌}
use Rattle.dgc_client.specs.RefMap.{refs_in}
use Rattle.dgc_client.proofs.ref_map.list.Given as goal

abbrev pub invariant-loop-object : goal.invariant-loop-object
invariant-loop-object l = l.list ++ refs_in l.object-iterator ≡ refs_in l.refs.entries
