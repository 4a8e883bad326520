use Rattle.std.proofs.Common.{refl}
use Rattle.ser_read.proofs.Steps.{then, done}
use Rattle.ser_read.proofs.Breaking.{raised, first}
use Rattle.ser_read.proofs.pulled.two.Goals as goal

pub returns-in_err-fill-clause-stops : goal.returns-in_err-fill-clause-stops
returns-in_err-fill-clause-stops g c = raised c.from_residual.result c.from_residual.ensures.1 (first _ c.in_err-fill.ensures.stops)

pub returns-clause-reads : goal.returns-clause-reads
returns-clause-reads g c = rw c.from_be_bytes.ensures (then _ c.in_ok-fill.ensures.reads (done (λ end bs. refl)))
