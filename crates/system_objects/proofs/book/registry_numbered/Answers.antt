use Rattle.std.proofs.Common.{◌∙◌, sym, w32}
use Rattle.std.proofs.lemmas.Int.{to_z-of_z}
use Rattle.system_objects.proofs.SystemNames.{registry_none}
use Rattle.system_objects.proofs.book.registry_numbered.Goals as goal

pub returns-in-None : goal.returns-in-None
returns-in-None c = sym (registry_none c.args.operation (λ m e. c.in-None.ensures.none m (to_z-of_z w32 c.args.operation c.ranges.operation ∙ e)))
