use Rattle.std.proofs.Common.{◌≡◌}
use Rattle.java_shapes.specs.Flags.{place_within}
use Rattle.java_shapes.proofs.flags.place_within.Given as goal

abbrev pub invariant-loop-left : goal.invariant-loop-left
invariant-loop-left l = place_within l.nodes l.name l.left l.slot ≡ place_within l.nodes l.name l.fn.count l.fn.class

abbrev pub decreases-loop-left : goal.decreases-loop-left
decreases-loop-left l = l.left
