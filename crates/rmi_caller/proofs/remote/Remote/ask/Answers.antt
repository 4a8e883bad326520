use Rattle.std.proofs.Common.{Ok, Err, refl}
use Rattle.rmi_caller.proofs.Lending.{called_by}
use Rattle.rmi_caller.proofs.remote.Remote.ask.Goals as goal

pub returns-in-Ok-clause-calls : goal.returns-in-Ok-clause-calls
returns-in-Ok-clause-calls g c text arguments ready is_open =
    called_by c.args.self.now.object text arguments c.head_of-head.result c.args.prepared.now.hash c.args.prepared.now.arguments c.args.prepared.now.result _ _ (Ok c.in-Ok.answer) _
    c.head_of-head.ensures ready.hash ready.is (c.in-Ok.ensures.asks is_open) (c.answer_of.result, refl, c.answer_of.ensures)

pub returns-in-Err-clause-calls : goal.returns-in-Err-clause-calls
returns-in-Err-clause-calls g c text arguments ready is_open =
    called_by c.args.self.now.object text arguments c.head_of-head.result c.args.prepared.now.hash c.args.prepared.now.arguments c.args.prepared.now.result _ _ (Err c.in-Err.end) _
    c.head_of-head.ensures ready.hash ready.is (c.in-Err.ensures.asks is_open) (c.error_of.result, refl, c.error_of.ensures.is)
