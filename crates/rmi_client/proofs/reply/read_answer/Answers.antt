use Rattle.rmi_client.proofs.Returning.{answer_heard}
use Rattle.rmi_client.proofs.reply.read_answer.Goals as goal

pub returns-then-code-eq81-clause-hears : goal.returns-then-code-eq81-clause-hears
returns-then-code-eq81-clause-hears g c =
    answer_heard _ _ _ c.args.want c.read_behind.result (rw c.if-code-eq81.true at c.in-Ok.ensures.takes) c.take_code.new.pull.within c.read_behind.new.pull.within c.read_behind.ensures.hears
