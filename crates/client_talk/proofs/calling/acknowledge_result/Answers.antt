use Rattle.std.proofs.Common.{refl}
use Rattle.object_ids.specs.Bytes.{bytes_of_uid}
use Rattle.rmi_client.specs.declared.end.ClientEnd.TheVariants.{OutOfMemory}
use Rattle.client_talk.specs.declared.end.CommandEnd.TheVariants.{Session}
use Rattle.client_talk.proofs.Leasing.{acks_as, memory_on}
use Rattle.client_talk.proofs.calling.acknowledge_result.Goals as goal

pub returns-in-Ok-clause-acks : goal.returns-in-Ok-clause-acks
returns-in-Ok-clause-acks g c s k links given given2 next here stands =
    c.acknowledge_if.ensures.acks s k links given given2 next here (acks_as s k links given given2 (bytes_of_uid c.args.answer.now.uid) _ _ next c.in-Ok.ensures stands)

pub returns-in-Err-clause-acks : goal.returns-in-Err-clause-acks
returns-in-Err-clause-acks g c s k links given given2 next here stands = memory_on s _ k links given given2 _ (Session OutOfMemory) here stands refl
