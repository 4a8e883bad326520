use Rattle.std.proofs.Common.{drop}
use Rattle.rmi_caller.specs.Arguments.{AllFit}
use Rattle.rmi_caller.proofs.argument.check_arguments.Given as goal

abbrev pub invariant-loop-place : goal.invariant-loop-place
invariant-loop-place l = AllFit (drop l.place l.codes) (drop l.place l.arguments) → AllFit l.codes l.arguments
