use Rattle.lease_world.proofs.Standing.{due-step}
use Rattle.lease_world.proofs.world.World.send_due.Goals as goal

pub returns : goal.returns
returns c = due-step c.args.self.now c.call_member.new.self c.args.client c.call_member.result c.call_member.ensures
