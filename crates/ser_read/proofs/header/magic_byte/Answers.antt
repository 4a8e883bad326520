use Rattle.ser_read.proofs.Heads.{magic_here}
use Rattle.ser_read.proofs.Breaking.{raised, breaks_said, first}
use Rattle.ser_read.proofs.header.magic_byte.Goals as goal

pub returns-in_err-byte-clause-stops : goal.returns-in_err-byte-clause-stops
returns-in_err-byte-clause-stops g c = raised c.from_residual.result c.from_residual.ensures.1 (breaks_said (λ end bs here. magic_here end c.args.want c.args.pull.now.at bs here) (first _ c.in_err-byte.ensures.stops))
