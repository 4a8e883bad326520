use Rattle.std.proofs.Common.{◌∙◌, sym}
use Rattle.system_objects.proofs.SystemNames.{of_registry, of_collector}
use Rattle.system_objects.proofs.book.Book.system_method.Goals as goal

pub returns-then-is_registry : goal.returns-then-is_registry
returns-then-is_registry c = c.registry_method.ensures ∙ sym (of_registry c.args.head.now (sym c.is_registry.ensures ∙ c.if-is_registry.true))

pub returns-else-is_registry : goal.returns-else-is_registry
returns-else-is_registry c = c.collector_method.ensures ∙ sym (of_collector c.args.head.now (sym c.is_registry.ensures ∙ c.if-is_registry.false))
