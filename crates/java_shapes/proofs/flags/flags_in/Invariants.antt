use Rattle.std.proofs.Common.{◌≡◌}
use Rattle.java_shapes.specs.Flags.{flags_below}
use Rattle.java_shapes.proofs.flags.flags_in.Given as goal

-- The places of the flags of the nodes so far.
abbrev pub invariant-loop-number : goal.invariant-loop-number
invariant-loop-number l = l.places.items ≡ flags_below l.graph.nodes l.number
