use Rattle.std.proofs.Common.{take}
use Rattle.stream_grammar.specs.Faults.{AreBytes}
use Rattle.ser_read.proofs.pulled.see.Given as goal

abbrev pub invariant-loop-byte : goal.invariant-loop-byte
invariant-loop-byte l = AreBytes (take l.byte-index l.bytes)
