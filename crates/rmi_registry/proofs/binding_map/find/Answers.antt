use Rattle.std.proofs.Common.{◌∙◌}
use Rattle.rmi_registry.proofs.Entries.{object-looked_up}
use Rattle.rmi_registry.proofs.binding_map.find.Goals as goal

pub returns : goal.returns
returns c = c.copied.ensures ∙ c.get.ensures.value ∙ object-looked_up c.args.bound.now.entries c.args.units.now
