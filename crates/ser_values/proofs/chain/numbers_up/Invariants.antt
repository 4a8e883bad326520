use Rattle.std.proofs.Common.{◌≡◌, ◌++◌}
use Rattle.ser_values.specs.Chain.{chain, chain_within}
use Rattle.ser_values.proofs.chain.numbers_up.Given as goal

abbrev pub invariant-loop-left : goal.invariant-loop-left
invariant-loop-left l = l.numbers.items ++ chain_within l.left l.nodes l.slot ≡ chain l.nodes l.fn.class

abbrev pub decreases-loop-left : goal.decreases-loop-left
decreases-loop-left l = l.left
