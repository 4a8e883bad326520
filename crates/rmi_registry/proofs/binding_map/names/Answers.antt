use Rattle.std.proofs.Common.{◌++◌, ◌∙◌, ap}
use Rattle.std.specs.Prelude.{map}
use Rattle.rmi_registry.proofs.Entries.{names-keys}
use Rattle.rmi_registry.proofs.binding_map.names.Goals as goal

pub loop-units-init : goal.loop-units-init
loop-units-init c =
    ap (λ l. l ++ map (λ k. k.items) c.into_iter-units-iterator.result) c.new-names.ensures
    ∙ ap (map (λ k. k.items)) (c.into_iter-units-iterator.ensures.into_iter_gives ∙ c.keys-units-items.ensures.rest) ∙ names-keys c.args.bound.now.entries
