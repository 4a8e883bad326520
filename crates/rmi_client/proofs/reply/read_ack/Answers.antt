use Rattle.rmi_client.proofs.Replying.{ack_heard}
use Rattle.rmi_client.proofs.reply.read_ack.Goals as goal

pub returns-in-78-clause-hears : goal.returns-in-78-clause-hears
returns-in-78-clause-hears g c = ack_heard _ _ _ c.read_own_endpoint.result (rw c.in-78.is at c.in-Ok.ensures.takes) c.take_code.new.pull.within c.read_own_endpoint.new.pull.within c.read_own_endpoint.ensures.gives
