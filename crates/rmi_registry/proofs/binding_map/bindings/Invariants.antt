use Rattle.std.proofs.Common.{◌≡◌, ◌++◌, ◌≤◌, length}
use Rattle.history.specs.declared.limits.TheConstants.{MAX_NAME_UNITS}
use Rattle.std.specs.List.{AllByRecursion}
use Rattle.rmi_registry.specs.MapEntries.{bindings_of}
use Rattle.rmi_registry.specs.Bindings.{names_in}
use Rattle.rmi_registry.proofs.binding_map.bindings.Given as goal

abbrev pub invariant-loop-units : goal.invariant-loop-units
invariant-loop-units l =
    record {
      rest : l.bindings ++ bindings_of l.units-iterator ≡ bindings_of l.bound.entries;
      short : AllByRecursion (λ n. length n ≤ MAX_NAME_UNITS) (names_in (bindings_of l.units-iterator));
    }
