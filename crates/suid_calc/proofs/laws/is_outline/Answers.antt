use Rattle.suid_calc.proofs.OrderLaws.{no_outline}
use Rattle.suid_calc.proofs.laws.is_outline.Goals as goal

pub returns-in-Err-BadLine-clause-refused : goal.returns-in-Err-BadLine-clause-refused
returns-in-Err-BadLine-clause-refused c = λ t outline.
    no_outline c.args.text.now c.in-Err-BadLine.field-0-0 (rw c.in-Err-BadLine.field-0-is at c.in-Err-BadLine.ensures.err) outline
