use Rattle.std.proofs.Common.{◌≡◌, ◌≤◌, length, take}
use Rattle.rmi_cli.specs.Arguments.{argument_nodes}
use Rattle.rmi_cli.proofs.call_arguments.put_nodes.Given as goal

abbrev pub invariant-loop-argument : goal.invariant-loop-argument
invariant-loop-argument l = record {
  nodes : l.builder ≡ argument_nodes (take l.argument-index l.arguments);
  few : length l.builder ≤ l.argument-index;
}
