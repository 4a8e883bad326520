use Rattle.std.proofs.Common.{◌≡◌, length, take}
use Rattle.ser_read.specs.Codes.{codes_of}
use Rattle.ser_read.proofs.row.few_codes_of.Given as goal

abbrev pub invariant-loop-index : goal.invariant-loop-index
invariant-loop-index l =
    record {
      room : length l.all ≡ 8;
      codes : take l.index l.all ≡ codes_of (take l.index l.fields);
    }
