use Rattle.std.proofs.Common.{Ok, Err}
use Rattle.object_ids.specs.Bytes.{bytes_of_uid}
use Rattle.client_talk.specs.Scripts.{asks, done}
use Rattle.client_talk.specs.Rmi.{Bind}
use Rattle.client_talk.proofs.Talking.{now_at}
use Rattle.client_talk.proofs.Stepping.{talks_again}
use Rattle.client_talk.proofs.Leaving.{acked_on}
use Rattle.client_talk.proofs.binding.bind_acknowledged.Goals as goal

pub returns-in-Ok-clause-talks : goal.returns-in-Ok-clause-talks
returns-in-Ok-clause-talks g c s k links given given2 here stands =
    talks_again s k links _ _ given given2 _
    (c.bind_to.ensures.talks s k _ given given2 (now_at k _ _ links here)
    (acked_on s k links given given2 _ _ (bytes_of_uid c.args.uid) c.args.reference.now (asks k (Bind c.args.name.now c.args.reference.now) (λ finished. done tt)) (Ok tt) here stands c.in-Ok.ensures.acks))

pub returns-in-Err-clause-talks : goal.returns-in-Err-clause-talks
returns-in-Err-clause-talks g c s k links given given2 here stands =
    acked_on s k links given given2 _ _ (bytes_of_uid c.args.uid) c.args.reference.now (asks k (Bind c.args.name.now c.args.reference.now) (λ finished. done tt)) (Err c.in-Err.end) here stands c.in-Err.ensures.acks
