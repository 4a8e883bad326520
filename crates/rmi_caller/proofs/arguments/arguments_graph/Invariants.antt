use Rattle.std.proofs.Common.{take}
use Rattle.rmi_caller.specs.Arguments.{HasPut}
use Rattle.rmi_caller.proofs.arguments.arguments_graph.Given as goal

abbrev pub invariant-loop-argument : goal.invariant-loop-argument
invariant-loop-argument l = HasPut l.draft (take l.argument-index l.arguments)
