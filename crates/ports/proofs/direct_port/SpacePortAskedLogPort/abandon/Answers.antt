use Rattle.std.proofs.Common.{arith}
use Rattle.ports.proofs.TieSteps.{tied-as, tied-abandoned}
use Rattle.ports.proofs.direct_port.SpacePortAskedLogPort.abandon.Goals as goal

pub returns-clause-ready : goal.returns-clause-ready
returns-clause-ready c =
    let capacity = c.push_reserved.ensures.capacity in
    tied-as c.args.self.now.by c.abandon.new.self _ c.push_reserved.new.self.items c.args.self.now.asked.capacity c.push_reserved.new.self.capacity c.push_reserved.ensures.items (omega (arith, capacity))
    (tied-abandoned c.args.self.now.by c.args.moment c.args.object c.args.self.now.space.now c.abandon.new.self c.args.self.now.asked.items c.args.self.now.asked.capacity c.len-place.result c.requires.ready c.requires.runs c.abandon.ensures.events c.abandon.ensures.config)
