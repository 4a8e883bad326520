use Rattle.ser_read.proofs.Heads.{head_block, head_long}
use Rattle.ser_read.proofs.Breaking.{raised, breaks_said, first}
use Rattle.ser_read.proofs.block.one_head.Goals as goal

pub returns-in_err-n-clause-stops : goal.returns-in_err-n-clause-stops
returns-in_err-n-clause-stops g c = raised c.from_residual.result c.from_residual.ensures.1 (breaks_said (λ end bs here. head_block end c.args.code c.args.at bs c.if-code-eq119.true) (first _ c.in_err-n.ensures.stops))

pub returns-in_err-n-2-clause-stops : goal.returns-in_err-n-2-clause-stops
returns-in_err-n-2-clause-stops g c = raised c.from_residual-in_err-n-2.result c.from_residual-in_err-n-2.ensures.1 (breaks_said (λ end bs here. head_long end c.args.code c.args.at bs c.if-code-eq122.true) (first _ c.in_err-n-2.ensures.stops))
