use Rattle.std.proofs.Common.{◌≡◌, ◌++◌, reverse}
use Rattle.stream_grammar.specs.Spelled.{writers}
use Rattle.ser_write.proofs.pieces.writers_up.Given as goal

abbrev pub invariant-loop-left : goal.invariant-loop-left
invariant-loop-left l = writers l.nodes l.left l.slot ++ reverse l.up.items ≡ writers l.nodes l.count l.fn.class

abbrev pub decreases-loop-left : goal.decreases-loop-left
decreases-loop-left l = l.left
