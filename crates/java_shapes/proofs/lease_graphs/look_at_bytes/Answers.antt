use Rattle.std.proofs.Common.{arith}
use Rattle.ser_values.proofs.Ranged.{all_fit}
use Rattle.java_shapes.proofs.lease_graphs.look_at_bytes.Goals as goal

pub returns : goal.returns
returns c = all_fit c.args.bytes.now (λ i. omega (arith, c.type_inv.bytes i))
