use Rattle.std.proofs.Common.{◌≡◌, ◌≤◌, ◌∷◌, ap, subst, length, arith}
use Rattle.history.specs.declared.limits.TheConstants.{MAX_NAME_UNITS}
use Rattle.std.specs.List.{AllByRecursion}
use Rattle.rmi_registry.specs.MapEntries.{bindings_of}
use Rattle.rmi_registry.specs.Bindings.{names_in}
use Rattle.rmi_registry.proofs.binding_map.bindings.Goals as goal

pub binding-requires : goal.binding-requires
binding-requires c =
    let steps : bindings_of c.loop-units.units-iterator ≡ record { name = c.in-Some.units.now.items; object = c.in-Some.object.now } ∷ bindings_of c.next.new.self = ap bindings_of c.in-Some.ensures.steps in
    let short = subst (λ l. AllByRecursion (λ n. length n ≤ MAX_NAME_UNITS) (names_in l)) steps c.loop-units.invariant.short in
    let here = short.0 in let same = ap length c.as_slice.ensures.value in
    omega arith
