use Rattle.std.proofs.Common.{◌≡◌}
use Rattle.java_shapes.specs.LocalRefs.{refs_below, local_among}
use Rattle.java_shapes.proofs.local_ids.local_set.Given as goal

-- The objects of the references that the nodes so far are.
abbrev pub invariant-loop-number : goal.invariant-loop-number
invariant-loop-number l = l.ids.keys ≡ local_among l.host l.port (refs_below l.graph.nodes l.number)
