use Rattle.std.proofs.Common.{◌≡◌, ◌≤◌, drop}
use Rattle.rmi_cli.specs.Arguments.{argument_items, with_arguments}
use Rattle.rmi_cli.proofs.call_arguments.argument_items.Given as goal

abbrev pub invariant-loop-argument : goal.invariant-loop-argument
invariant-loop-argument l = record {
  strings : l.draft.strings ≤ l.argument-index;
  rest : with_arguments l.draft (drop l.argument-index l.arguments) ≡ argument_items l.arguments;
}
