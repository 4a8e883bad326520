use Rattle.dgc_client.proofs.Resting.{idle-over, idle-timely}
use Rattle.dgc_client.proofs.idle.known.Goals as goal

pub returns-then-over : goal.returns-then-over
returns-then-over c = λ sent refs none. idle-over c.args.over sent refs c.if-over.true none

pub returns-else-over : goal.returns-else-over
returns-else-over c = λ sent refs none. idle-timely c.args.over sent refs c.if-over.false none
