use Rattle.std.proofs.Common.{◌≡◌, ◌++◌}
use Rattle.std.specs.Prelude.{map}
use Rattle.rmi_registry.specs.MapEntries.{bindings_of}
use Rattle.rmi_registry.specs.Bindings.{names_in}
use Rattle.rmi_registry.proofs.binding_map.names.Given as goal

abbrev pub invariant-loop-units : goal.invariant-loop-units
invariant-loop-units l = l.names ++ map (λ k. k.items) l.units-iterator ≡ names_in (bindings_of l.bound.entries)
