use Rattle.std.proofs.Common.{◌∙◌, ap}
use Rattle.rmi_registry.specs.MapEntries.{bindings_of}
use Rattle.rmi_registry.proofs.Entries.{object-looked_up, bindings-removed}
use Rattle.rmi_registry.proofs.binding_map.remove.Goals as goal

pub returns-clause-was : goal.returns-clause-was
returns-clause-was c = c.shift_remove.ensures.value ∙ object-looked_up c.args.bound.now.entries c.args.units.now

pub returns-clause-bindings : goal.returns-clause-bindings
returns-clause-bindings c = ap bindings_of c.shift_remove.ensures.entries ∙ bindings-removed c.args.bound.now.entries c.args.units.now c.requires
