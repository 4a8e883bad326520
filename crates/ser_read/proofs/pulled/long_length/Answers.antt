use Rattle.std.proofs.Common.{◌^◌, arith}
use Rattle.std.specs.Int.{w64}
use Rattle.ser_read.proofs.Breaking.{raised}
use Rattle.ser_read.proofs.Stopping.{size_stops, size_negative}
use Rattle.ser_read.proofs.pulled.long_length.Goals as goal

pub returns-in_err-length-clause-stops : goal.returns-in_err-length-clause-stops
returns-in_err-length-clause-stops g c = raised c.from_residual.result c.from_residual.ensures.1 (size_stops w64 (2 ^ 63) c.in_err-length.ensures.stops)

pub returns-else-length-lt9223372036854775808-clause-stops : goal.returns-else-length-lt9223372036854775808-clause-stops
returns-else-length-lt9223372036854775808-clause-stops g c = rw c.negative_length.ensures (size_negative w64 (2 ^ 63) (omega arith) c.in_ok-length.ensures.reads)
