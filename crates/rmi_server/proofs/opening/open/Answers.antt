use Rattle.rmi_server.proofs.Beginning.{opened-next}
use Rattle.rmi_server.proofs.opening.open.Goals as goal

pub returns-in-Opened-clause-object : goal.returns-in-Opened-clause-object
returns-in-Opened-clause-object c = opened-next c.args.space.now.configuration c.args.space.now.events c.turn.new.self.events c.args.kind c.in-Ok.turn c.in-Opened.object c.in-Ok.ensures.step c.in-Opened.is
