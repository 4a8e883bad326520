use Rattle.ports.proofs.BalanceLaws.{went-alone, calls-add-up, balanced-leaves-none}
use Rattle.ports.proofs.laws.calls_add_up.Goals as goal

pub returns-clause-alone : goal.returns-clause-alone
returns-clause-alone c = went-alone

pub returns-clause-sum : goal.returns-clause-sum
returns-clause-sum c = calls-add-up

pub returns-clause-none : goal.returns-clause-none
returns-clause-none c = balanced-leaves-none
