use Rattle.client_talk.proofs.Joining.{acked_by}
use Rattle.client_talk.proofs.Leaving.{acknowledged}
use Rattle.client_talk.proofs.acknowledge.acknowledge.Goals as goal

pub returns-then-flagged-clause-acks : goal.returns-then-flagged-clause-acks
returns-then-flagged-clause-acks g c = acknowledged _ _ _ _ _ c.if-flagged.true (acked_by c.args.uid _ _ _ (c.ack.ensures.tells c.requires))
