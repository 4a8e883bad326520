use Rattle.std.proofs.Common.{subst}
use Rattle.lease_world.specs.Stands.{WorldParts}
use Rattle.lease_world.proofs.Stepping.{HasTable, step-cause, rows-are, promise-is}
use Rattle.lease_world.proofs.world.World.step.Goals as goal

pub returns-clause-refused : goal.returns-clause-refused
returns-clause-refused c = step-cause c.args.self.now c.take-result.new.self c.args.step c.take-result.result c.take-result.ensures

pub returns-clause-table : goal.returns-clause-table
returns-clause-table c = rows-are c.take-result.new.self (subst (λ (v : WorldParts). HasTable v.space) c.self.view_is c.len-count.ensures.rows)

pub returns-clause-promise : goal.returns-clause-promise
returns-clause-promise c = promise-is c.take-result.new.self (subst (λ (v : WorldParts). HasTable v.space) c.self.view_is c.len-count.ensures.rows)
