use Rattle.std.proofs.Common.{◌≡◌, ◌++◌, take}
use Rattle.mod_utf.specs.Utf.{utf}
use Rattle.ser_write.proofs.numbers.put_units.Given as goal

abbrev pub invariant-loop-unit : goal.invariant-loop-unit
invariant-loop-unit l = l.out ≡ l.fn.out ++ utf (take l.unit-index l.units)
