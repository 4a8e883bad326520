use Rattle.std.proofs.Common.{◌≡◌, ◌∷◌, [], ◌++◌, List, subst, sym, ap, ◌∙◌, arith, false, ◌≤◌, length}
use Rattle.history.specs.declared.limits.TheConstants.{MAX_NAMES, MAX_NAME_UNITS}
use Rattle.std.specs.Prelude.{nat_le}
use Rattle.std.proofs.lemmas.Bool.{leb-false}
use Rattle.rmi_registry.specs.declared.binding.Binding.{Binding}
use Rattle.rmi_registry.specs.MapEntries.{bindings_of}
use Rattle.rmi_registry.specs.Bindings.{is_bound, IsRegistry}
use Rattle.rmi_registry.proofs.BindingLaws.{registry-added}
use Rattle.rmi_registry.proofs.names.Names.add.Goals as goal

pub invariant_of-self-2 : goal.invariant_of-self-2
invariant_of-self-2 c =
    let bs = bindings_of c.self.inside.bound.entries in
    let n = c.as_slice-units.result.now in
    let name : n ≡ c.args.name.now = c.as_slice-units.ensures ∙ c.units.ensures.value in
    let absent : is_bound bs n ≡ false = ap (is_bound bs) name ∙ ap (λ l. is_bound l c.args.name.now) c.self.view_is ∙ c.requires in
    let few : nat_le MAX_NAMES (length bs) ≡ false = ap (λ l. nat_le MAX_NAMES (length l)) c.self.view_is ∙ sym c.is_full.ensures ∙ c.if-is_full.false in
    let room = leb-false MAX_NAMES (length bs) few in
    let short : length n ≤ MAX_NAME_UNITS = subst (λ l. length l ≤ MAX_NAME_UNITS) (sym c.as_slice-units.ensures) c.units.ensures.short in
    let added : bindings_of c.append.new.bound.entries ≡ bs ++ record { name = n; object = c.args.object } ∷ [] = c.in_ok-append.ensures.ok in
    subst (λ (l : List Binding). IsRegistry l) (sym added) (registry-added bs n c.args.object c.self.invariant absent short (omega arith))
