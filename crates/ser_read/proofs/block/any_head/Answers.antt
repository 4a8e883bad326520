use Rattle.ser_read.proofs.Steps.{last, said_last}
use Rattle.ser_read.proofs.Heads.{any_here}
use Rattle.ser_read.proofs.Breaking.{raised, breaks_said, breaks_said_last, first, later_last}
use Rattle.ser_read.proofs.block.any_head.Goals as goal

pub returns-in_err-code-clause-stops : goal.returns-in_err-code-clause-stops
returns-in_err-code-clause-stops g c = raised c.from_residual.result c.from_residual.ensures.1 (breaks_said (λ end bs here. any_here end bs c.args.pull.now.at here) (first _ c.in_err-code.ensures.stops))

pub returns-clause-reads : goal.returns-clause-reads
returns-clause-reads g c = said_last _ _ _ c.one_head.result (λ end bs here. any_here end bs c.args.pull.now.at here) (last _ _ _ c.one_head.result c.in_ok-code.ensures.reads c.one_head.ensures.reads)

pub returns-clause-stops : goal.returns-clause-stops
returns-clause-stops g c = breaks_said_last _ _ c.one_head.result (λ end bs here. any_here end bs c.args.pull.now.at here) (later_last _ _ c.one_head.result c.in_ok-code.ensures.reads c.one_head.ensures.stops)
