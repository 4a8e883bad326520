use Rattle.rmi_server.proofs.Beginning.{begun-more, begun-unbound, begun-unopened}
use Rattle.rmi_server.proofs.opening.add.Goals as goal

pub returns-in-Ok-clause-opens : goal.returns-in-Ok-clause-opens
returns-in-Ok-clause-opens c = begun-more c.args.space.now c.open.new.space c.args.named.now c.in-Ok.object c.bind.new.space.events c.bind.result c.in-Ok.ensures.config c.in-Ok.ensures.opens c.in-Ok.ensures.object c.bind.ensures.binds c.bind.ensures.bound

pub returns-in-Ok-clause-causes : goal.returns-in-Ok-clause-causes
returns-in-Ok-clause-causes c = begun-unbound c.args.space.now c.open.new.space c.args.named.now c.in-Ok.object c.bind.result c.in-Ok.ensures.config c.in-Ok.ensures.opens c.in-Ok.ensures.object c.bind.ensures.causes

pub returns-in-Err-clause-causes : goal.returns-in-Err-clause-causes
returns-in-Err-clause-causes c = begun-unopened c.args.space.now c.args.named.now c.in-Err.fault c.in-Err.ensures.causes
