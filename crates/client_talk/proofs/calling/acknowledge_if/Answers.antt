use Rattle.std.proofs.Common.{Ok, Err}
use Rattle.object_ids.specs.Bytes.{bytes_of_uid}
use Rattle.client_talk.proofs.Leaving.{acked_if}
use Rattle.client_talk.proofs.calling.acknowledge_if.Goals as goal

pub returns-in-Ok-clause-acks : goal.returns-in-Ok-clause-acks
returns-in-Ok-clause-acks g c s k links given given2 next here stands =
    acked_if c.args.flagged s k links given given2 _ _ (bytes_of_uid c.args.uid) next (Ok tt) here stands c.in-Ok.ensures.acks

pub returns-in-Err-clause-acks : goal.returns-in-Err-clause-acks
returns-in-Err-clause-acks g c s k links given given2 next here stands =
    acked_if c.args.flagged s k links given given2 _ _ (bytes_of_uid c.args.uid) next (Err c.in-Err.end) here stands c.in-Err.ensures.acks
