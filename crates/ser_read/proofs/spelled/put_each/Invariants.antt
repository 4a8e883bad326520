use Rattle.std.proofs.Common.{◌≡◌, ◌++◌, take}
use Rattle.ser_read.proofs.spelled.put_each.Given as goal

abbrev pub invariant-loop-byte : goal.invariant-loop-byte
invariant-loop-byte l = l.units ≡ l.initial.units ++ take l.byte-index l.bytes
