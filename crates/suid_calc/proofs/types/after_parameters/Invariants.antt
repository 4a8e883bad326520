use Rattle.std.proofs.Common.{◌≡◌}
use Rattle.suid_calc.specs.declared.outline.TheConstants.{MAX_PARAMETERS}
use Rattle.suid_calc.specs.Reading.{after_parameters}
use Rattle.suid_calc.proofs.types.after_parameters.Given as goal

abbrev pub invariant-loop-rest : goal.invariant-loop-rest
invariant-loop-rest l = after_parameters MAX_PARAMETERS l.text ≡ after_parameters l.left l.rest

abbrev pub decreases-loop-rest : goal.decreases-loop-rest
decreases-loop-rest l = l.left
