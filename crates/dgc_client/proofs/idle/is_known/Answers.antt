use Rattle.std.proofs.Common.{subst, true≢false, sym}
use Rattle.dgc_client.specs.declared.idle.Idle.{Idle}
use Rattle.dgc_client.specs.Idle.{IsIdle}
use Rattle.dgc_client.proofs.Resting.{timely-known, over-known}
use Rattle.dgc_client.proofs.idle.is_known.Goals as goal

pub returns-in-Unknown : goal.returns-in-Unknown
returns-in-Unknown c = λ sent refs idle known. absurd (true≢false (sym known))

pub returns-in-Timely : goal.returns-in-Timely
returns-in-Timely c = λ sent refs idle known. timely-known c.args.over sent refs known (subst (λ (i : Idle). IsIdle i sent refs) c.in-Timely.is idle)

pub returns-in-Over : goal.returns-in-Over
returns-in-Over c = λ sent refs idle known. over-known c.args.over sent refs known (subst (λ (i : Idle). IsIdle i sent refs) c.in-Over.is idle)
