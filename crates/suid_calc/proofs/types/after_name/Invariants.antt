use Rattle.std.proofs.Common.{◌≡◌, drop}
use Rattle.suid_calc.specs.Reading.{after_name}
use Rattle.suid_calc.proofs.types.after_name.Given as goal

abbrev pub invariant-loop-i : goal.invariant-loop-i
invariant-loop-i l = after_name l.text ≡ after_name (drop l.i l.text)
