use Rattle.std.proofs.Common.{◌≡◌, ◌≤◌, drop}
use Rattle.suid_calc.specs.declared.outline.TheConstants.{MAX_MODIFIERS}
use Rattle.suid_calc.specs.Reading.{number_after}
use Rattle.suid_calc.proofs.number.number_of.Given as goal

abbrev pub invariant-loop-digit : goal.invariant-loop-digit
invariant-loop-digit l = (number_after 0 l.digits ≡ number_after l.number (drop l.digit-index l.digits)) × (l.number ≤ MAX_MODIFIERS)
