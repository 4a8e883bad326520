use Rattle.std.proofs.Common.{arith}
use Rattle.java_shapes.proofs.FaultGraph.{looked}
use Rattle.java_shapes.proofs.fault_graphs.look.Goals as goal

pub returns : goal.returns
returns c = looked c.args.units.now (λ i. omega (arith, c.type_inv.units i))
