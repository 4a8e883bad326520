use Rattle.std.proofs.Common.{Ok, Err}
use Rattle.object_ids.specs.Bytes.{bytes_of_uid}
use Rattle.client_talk.specs.Scripts.{done}
use Rattle.client_talk.proofs.Stepping.{done_on}
use Rattle.client_talk.proofs.Leaving.{acked_on}
use Rattle.client_talk.proofs.lookup.keep.Goals as goal

pub returns-in-Ok-clause-talks : goal.returns-in-Ok-clause-talks
returns-in-Ok-clause-talks g c s k links given given2 here stands =
    done_on s _ given given2 c.args.found.1
    (acked_on s k links given given2 _ _ (bytes_of_uid c.args.found.0) c.args.found.1 (done c.args.found.1) (Ok tt) here stands c.in-Ok.ensures.acks)

pub returns-in-Err-clause-talks : goal.returns-in-Err-clause-talks
returns-in-Err-clause-talks g c s k links given given2 here stands =
    acked_on s k links given given2 _ _ (bytes_of_uid c.args.found.0) c.args.found.1 (done c.args.found.1) (Err c.in-Err.end) here stands c.in-Err.ensures.acks
