use Rattle.std.proofs.Common.{sym, ◌∙◌}
use Rattle.system_objects.proofs.FixedReturns.{one_name, two_names}
use Rattle.system_objects.proofs.fixed_returns.interfaces_head.Goals as goal

pub returns-then-is_remote : goal.returns-then-is_remote
returns-then-is_remote c = one_name c.args.interface.now (sym c.is_remote.ensures ∙ c.if-is_remote.true)

pub returns-else-is_remote : goal.returns-else-is_remote
returns-else-is_remote c = two_names c.args.interface.now (sym c.is_remote.ensures ∙ c.if-is_remote.false)
