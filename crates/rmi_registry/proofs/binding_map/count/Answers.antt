use Rattle.std.proofs.Common.{◌∙◌}
use Rattle.rmi_registry.proofs.Entries.{counted-values}
use Rattle.rmi_registry.proofs.binding_map.count.Goals as goal

pub returns : goal.returns
returns c = c.values_of.ensures ∙ counted-values c.args.bound.now.entries c.args.object.now
