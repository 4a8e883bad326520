use Rattle.client_talk.specs.Scripts.{done}
use Rattle.client_talk.specs.Commands.{acks}
use Rattle.client_talk.proofs.Talking.{now_at}
use Rattle.client_talk.proofs.Stepping.{talks_again}
use Rattle.client_talk.proofs.Registry.{found_on, unfound_on}
use Rattle.client_talk.proofs.lookup.look_up_on.Goals as goal

pub returns-in-Ok-clause-talks : goal.returns-in-Ok-clause-talks
returns-in-Ok-clause-talks g c s k links given given2 here stands =
    talks_again s k links _ _ given given2 _
    (c.keep.ensures.talks s k _ given given2 (now_at k _ _ links here)
    (found_on s k links given given2 _ _ c.args.name.now (λ uid reference. acks k uid reference (done reference)) c.in-Ok.found here stands (c.in-Ok.ensures.asks c.requires)))

pub returns-in-Err-clause-talks : goal.returns-in-Err-clause-talks
returns-in-Err-clause-talks g c s k links given given2 here stands =
    unfound_on s k links given given2 _ _ c.args.name.now (λ uid reference. acks k uid reference (done reference)) c.in-Err.end here stands (c.in-Err.ensures.asks c.requires)
