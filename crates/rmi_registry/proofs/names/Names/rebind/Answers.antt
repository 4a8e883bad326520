use Rattle.std.proofs.Common.{◌≡◌, ◌∷◌, [], ◌++◌, sym, ap, ◌∙◌, false}
use Rattle.std.specs.Prelude.{is_some, if◌then◌else◌}
use Rattle.rmi_registry.specs.Bindings.{is_bound, with_binding}
use Rattle.rmi_registry.proofs.BindingLaws.{rebound-new}
use Rattle.rmi_registry.proofs.names.Names.rebind.Goals as goal

pub returns-clause-ok : goal.returns-clause-ok
returns-clause-ok c =
    let bs = c.args.self.now in
    let new : is_bound bs c.args.name ≡ false = ap is_some (sym c.in-None.ensures.stood) in
    let same : c.replace.new.self ≡ bs = c.replace.ensures.bindings ∙ ap (λ s. if s then with_binding bs c.args.name c.args.object else bs) new in
    c.in_ok-add-in-None.ensures.ok ∙ ap (λ l. l ++ record { name = c.args.name; object = c.args.object } ∷ []) same ∙ sym (rebound-new bs c.args.name c.args.object new)
