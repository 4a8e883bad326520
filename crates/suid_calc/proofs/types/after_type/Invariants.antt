use Rattle.std.proofs.Common.{◌≡◌, drop}
use Rattle.suid_calc.specs.Reading.{after_type}
use Rattle.suid_calc.proofs.types.after_type.Given as goal

abbrev pub invariant-loop-i : goal.invariant-loop-i
invariant-loop-i l = after_type l.text ≡ after_type (drop l.i l.text)
