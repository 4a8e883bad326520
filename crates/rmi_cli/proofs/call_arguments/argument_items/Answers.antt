use Rattle.std.proofs.Common.{◌∙◌}
use Rattle.rmi_cli.proofs.ArgumentItems.{items_end}
use Rattle.rmi_cli.proofs.call_arguments.argument_items.Goals as goal

pub returns : goal.returns
returns c = c.into_items.ensures ∙ items_end c.args.arguments.now c.loop-argument.argument-index c.loop-argument.draft _ _ c.loop-argument-test.false c.loop-argument.invariant.rest c.in_ok-end_run.ensures.items
