use Rattle.std.proofs.Common.{List, subst, sym, ap, ◌∙◌}
use Rattle.std.specs.Prelude.{is_some}
use Rattle.rmi_registry.specs.declared.binding.Binding.{Binding}
use Rattle.rmi_registry.specs.MapEntries.{bindings_of}
use Rattle.rmi_registry.specs.Bindings.{IsRegistry}
use Rattle.rmi_registry.proofs.BindingLaws.{registry-without, without-absent, missing}
use Rattle.rmi_registry.proofs.names.Names.unbind.Goals as goal

pub invariant_of-self : goal.invariant_of-self
invariant_of-self c =
    let bs = bindings_of c.self.inside.bound.entries in
    subst (λ (l : List Binding). IsRegistry l) (sym c.remove.ensures.bindings) (registry-without bs c.as_slice.result.now c.self.invariant)

pub returns-clause-err : goal.returns-clause-err
returns-clause-err c =
    let bs = bindings_of c.self.inside.bound.entries in
    missing c.remove.result _ c.ok_or.result c.ok_or.ensures.value
    (λ none. c.remove.ensures.bindings ∙ without-absent bs c.as_slice.result.now (ap is_some (sym c.remove.ensures.was ∙ none)) ∙ c.self.view_is)
