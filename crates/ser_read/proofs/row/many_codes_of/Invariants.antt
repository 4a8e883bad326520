use Rattle.std.proofs.Common.{◌≡◌, take}
use Rattle.ser_read.specs.Codes.{codes_of}
use Rattle.ser_read.proofs.row.many_codes_of.Given as goal

abbrev pub invariant-loop-field : goal.invariant-loop-field
invariant-loop-field l = l.codes ≡ codes_of (take l.field-index l.fields)
