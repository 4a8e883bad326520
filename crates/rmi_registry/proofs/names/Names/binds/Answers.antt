use Rattle.std.proofs.Common.{arith}
use Rattle.rmi_registry.specs.MapEntries.{bindings_of}
use Rattle.rmi_registry.proofs.BindingLaws.{count-few}
use Rattle.rmi_registry.proofs.names.Names.binds.Goals as goal

pub overflow_cast-result : goal.overflow_cast-result
overflow_cast-result c =
    let few = count-few (bindings_of c.self.inside.bound.entries) c.args.object c.self.invariant in
    let count = c.count.ensures in
    omega arith
