use Rattle.std.proofs.Common.{◌≡◌, drop}
use Rattle.ser_values.specs.Shape.{are_short}
use Rattle.ser_values.proofs.shape.are_short.Given as goal

abbrev pub invariant-loop-name : goal.invariant-loop-name
invariant-loop-name l = are_short (drop l.name-index l.names) ≡ are_short l.names
