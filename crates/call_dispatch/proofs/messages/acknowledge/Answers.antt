use Rattle.std.proofs.Common.{rules}
use Rattle.std.specs.Prelude.{FitsSigned}
use Rattle.std.specs.Int.{w16, w32, w64}
use Rattle.object_ids.specs.Bytes.{FitsUid}
use Rattle.call_dispatch.proofs.AckSteps.{noted, stopped}
use Rattle.call_dispatch.proofs.messages.acknowledge.Goals as goal

pub returns-in-Ok-clause-acknowledges : goal.returns-in-Ok-clause-acknowledges
returns-in-Ok-clause-acknowledges g c =
    let unique : FitsSigned w32 c.in-Ok.uid.unique = search rules in
    let time : FitsSigned w64 c.in-Ok.uid.time = search rules in
    let count : FitsSigned w16 c.in-Ok.uid.count = search rules in
    let fits : FitsUid c.in-Ok.uid = record { unique = unique; time = time; count = count } in
    rw c.note.ensures.frame.only.pull (noted _ _ _ _ _ _ c.in-Ok.uid _ c.note.result fits c.in-Ok.ensures.gives c.note.ensures.notes)

pub returns-in-Err-clause-acknowledges : goal.returns-in-Err-clause-acknowledges
returns-in-Err-clause-acknowledges g c = rw c.end_of.ensures (stopped _ _ _ _ _ c.args.sent c.in-Err.fault c.in-Err.ensures.gives)
