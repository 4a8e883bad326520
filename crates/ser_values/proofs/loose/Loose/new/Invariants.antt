use Rattle.std.proofs.Common.{◌≡◌, map, take}
use Rattle.ser_values.specs.Loose.{elements_in}
use Rattle.ser_values.proofs.loose.Loose.new.Given as goal

abbrev pub invariant-loop-node : goal.invariant-loop-node
invariant-loop-node l = l.elements.items ≡ map elements_in (take l.node-index l.nodes)
