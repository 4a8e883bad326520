use Rattle.std.proofs.Common.{◌^◌, arith}
use Rattle.std.specs.Int.{w32}
use Rattle.ser_read.proofs.Breaking.{raised}
use Rattle.ser_read.proofs.Stopping.{size_stops, size_negative}
use Rattle.ser_read.proofs.pulled.count.Goals as goal

pub returns-in_err-count-clause-stops : goal.returns-in_err-count-clause-stops
returns-in_err-count-clause-stops g c = raised c.from_residual.result c.from_residual.ensures.1 (size_stops w32 (2 ^ 31) c.in_err-count.ensures.stops)

pub returns-else-count-lt2147483648-clause-stops : goal.returns-else-count-lt2147483648-clause-stops
returns-else-count-lt2147483648-clause-stops g c = rw c.negative_length.ensures (size_negative w32 (2 ^ 31) (omega arith) c.in_ok-count.ensures.reads)
