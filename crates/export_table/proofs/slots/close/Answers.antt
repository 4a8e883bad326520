use Rattle.std.proofs.Common.{rules}
use Rattle.std.proofs.lemmas.Fn.{filter_same}
use Rattle.export_table.specs.Slots.{is_here}
use Rattle.export_table.proofs.slots.close.Goals as goal

pub returns-clause-items : goal.returns-clause-items
returns-clause-items c = filter_same _ is_here _ (λ x b f' h. search rules) _ _ c.retain.ensures.filtered
