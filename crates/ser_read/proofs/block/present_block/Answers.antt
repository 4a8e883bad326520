use Rattle.std.proofs.Common.{arith, ap, sym, Err}
use Rattle.ser_read.specs.Wants.{WantFault}
use Rattle.ser_read.proofs.Runs.{opened_none, opened_here}
use Rattle.ser_read.proofs.Steps.{done}
use Rattle.ser_read.proofs.Breaking.{want_raised, want_said, inside_first, inside_later, want_here}
use Rattle.ser_read.proofs.block.present_block.Goals as goal

pub returns-then-block-gt0-clause-reads : goal.returns-then-block-gt0-clause-reads
returns-then-block-gt0-clause-reads g c = done (λ end bs. opened_here end c.args.block bs (omega (arith, c.if-block-gt0.true)))

pub returns-in_err-n-clause-stops : goal.returns-in_err-n-clause-stops
returns-in_err-n-clause-stops g c = want_raised c.from_residual.result c.from_residual.ensures.1 (want_said (λ end bs here. opened_none end c.args.block bs (omega arith)) (inside_first _ c.in_err-n.ensures.stops))

pub returns-in-Code-clause-stops : goal.returns-in-Code-clause-stops
returns-in-Code-clause-stops g c = rw c.bad.ensures (want_said (λ end bs here. opened_none end c.args.block bs (omega arith)) (inside_later _ (rw c.in-Code.is at c.in_ok-n.ensures.reads) (want_here c.no_block.result c.in-Code.at (λ end bs here. ap (λ (f : WantFault). Err f) (sym (c.no_block.ensures c.in-Code.at))))))
