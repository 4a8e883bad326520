use Rattle.std.proofs.Common.{◌≡◌, ◌++◌, ◌<◌, ◌^◌, take, flat_map}
use Rattle.std.specs.List.{AllByRecursion}
use Rattle.history.specs.Texts.{hex_byte}
use Rattle.journal.proofs.put.put_hex.Given as goal

abbrev pub invariant-loop-byte : goal.invariant-loop-byte
invariant-loop-byte l = (l.out ≡ l.initial.out ++ flat_map hex_byte (take l.byte-index l.bytes)) × AllByRecursion (λ b. b < 2 ^ 8) (take l.byte-index l.bytes)
