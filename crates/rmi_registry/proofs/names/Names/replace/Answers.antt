use Rattle.std.proofs.Common.{◌≡◌, List, subst, sym, ap, ◌∙◌}
use Rattle.std.specs.Prelude.{is_some, if◌then◌else◌}
use Rattle.rmi_registry.specs.declared.binding.Binding.{Binding}
use Rattle.rmi_registry.specs.MapEntries.{bindings_of}
use Rattle.rmi_registry.specs.Bindings.{is_bound, with_binding, IsRegistry}
use Rattle.rmi_registry.proofs.BindingLaws.{registry-replaced}
use Rattle.rmi_registry.proofs.names.Names.replace.Goals as goal

pub invariant_of-self : goal.invariant_of-self
invariant_of-self c =
    let bs = bindings_of c.self.inside.bound.entries in
    let n = c.as_slice.result.now in
    let replaced : bindings_of c.replace.new.bound.entries ≡ (if is_bound bs n then with_binding bs n c.args.object else bs) =
    c.replace.ensures.bindings ∙ ap (λ o. if is_some o then with_binding bs n c.args.object else bs) c.replace.ensures.was in
    subst (λ (l : List Binding). IsRegistry l) (sym replaced) (registry-replaced bs n c.args.object c.self.invariant)
