use Rattle.client_talk.specs.Calling.{releases_all}
use Rattle.client_talk.specs.Contents.{returned}
use Rattle.client_talk.proofs.Talking.{now_at}
use Rattle.client_talk.proofs.Stepping.{talks_again}
use Rattle.client_talk.proofs.calling.wind_up.Goals as goal

pub returns-in-Ok-clause-talks : goal.returns-in-Ok-clause-talks
returns-in-Ok-clause-talks g c s k links given lessee log keeps here stands =
    talks_again s k links _ _ given _ _
    (c.release_all.ensures.talks s k _ given lessee log (returned c.args.answer.now) keeps (now_at k _ _ links here)
    (c.in-Ok.ensures.acks s k links given _ (releases_all k lessee (returned c.args.answer.now) log) here stands))

pub returns-in-Err-clause-talks : goal.returns-in-Err-clause-talks
returns-in-Err-clause-talks g c s k links given lessee log keeps here stands =
    c.in-Err.ensures.acks s k links given _ (releases_all k lessee (returned c.args.answer.now) log) here stands
