use Rattle.std.proofs.Common.{refl}
use Rattle.system_objects.specs.Terms.{terms_of}
use Rattle.call_dispatch.proofs.Returning.{made_sends}
use Rattle.call_dispatch.proofs.calls.finish_answer.Goals as goal

pub returns-in-Ok-clause-sends : goal.returns-in-Ok-clause-sends
returns-in-Ok-clause-sends c kinds outcome sent =
    (made_sends (terms_of kinds c.args.setup.now) c.args.uid outcome c.in-New.interface c.object_made-object.result c.args.reply.now c.in-Ok.bytes (rw c.in-New.is at sent) c.object_made-object.ensures c.in-Ok.ensures.written, refl)
