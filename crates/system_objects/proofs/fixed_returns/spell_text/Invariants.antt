use Rattle.std.proofs.Common.{◌≡◌, take}
use Rattle.mod_utf.specs.Utf.{utf}
use Rattle.system_objects.proofs.fixed_returns.spell_text.Given as goal

abbrev pub invariant-loop-unit : goal.invariant-loop-unit
invariant-loop-unit l = l.out ≡ utf (take l.unit-index l.units)
