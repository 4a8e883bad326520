use Rattle.std.proofs.Common.{refl}
use Rattle.ser_read.proofs.Steps.{then, done, said}
use Rattle.ser_read.proofs.Loop.{many_bytes}
use Rattle.ser_read.proofs.Breaking.{raised, breaks_said, first}
use Rattle.ser_read.proofs.numbers.bytes.Goals as goal

pub returns-in_err-bytes-clause-stops : goal.returns-in_err-bytes-clause-stops
returns-in_err-bytes-clause-stops g c = λ now. raised c.from_residual.result c.from_residual.ensures.1 (breaks_said (λ end bs here. many_bytes c.args.n now bs) (first _ (rw c.from.ensures at c.in_err-bytes.ensures.stops)))

pub returns-clause-reads : goal.returns-clause-reads
returns-clause-reads g c = λ now. said (λ end bs here. many_bytes c.args.n now bs) (then _ (rw c.from.ensures at c.in_ok-bytes.ensures.reads) (done (λ end bs. refl)))
