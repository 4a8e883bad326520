use Rattle.std.proofs.Common.{◌≡◌, ◌++◌, map, take}
use Rattle.suid_calc.specs.Text.{dot_of}
use Rattle.suid_calc.proofs.text.put_dotted.Given as goal

abbrev pub invariant-loop-byte : goal.invariant-loop-byte
invariant-loop-byte l = l.out ≡ l.initial.out ++ map dot_of (take l.byte-index l.text)
