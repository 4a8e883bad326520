use Rattle.client_talk.specs.Calling.{winds_up}
use Rattle.client_talk.specs.Contents.{returned}
use Rattle.client_talk.proofs.Talking.{now_at}
use Rattle.client_talk.proofs.Stepping.{talks_again}
use Rattle.client_talk.proofs.calling.settle_with.Goals as goal

pub returns-in-Ok-clause-talks : goal.returns-in-Ok-clause-talks
returns-in-Ok-clause-talks g c s k links given lessee log keeps here stands =
    let (log2, keeps2, held) = c.in-Ok.ensures.notes s k links given lessee log (winds_up k lessee (returned c.args.answer.now)) keeps here stands in
    talks_again s k links _ _ given _ _ (c.wind_up.ensures.talks s k _ given lessee log2 keeps2 (now_at k _ _ links here) held)

pub returns-in-Err-clause-talks : goal.returns-in-Err-clause-talks
returns-in-Err-clause-talks g c s k links given lessee log keeps here stands =
    c.in-Err.ensures.notes s k links given lessee log (winds_up k lessee (returned c.args.answer.now)) keeps here stands
