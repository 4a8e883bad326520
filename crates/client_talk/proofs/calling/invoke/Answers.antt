use Rattle.client_talk.proofs.Talking.{now_at}
use Rattle.client_talk.proofs.Stepping.{talks_again}
use Rattle.client_talk.proofs.Leasing.{invoked_on, uninvoked_on}
use Rattle.client_talk.proofs.calling.invoke.Goals as goal

pub returns-in-Ok-clause-talks : goal.returns-in-Ok-clause-talks
returns-in-Ok-clause-talks g c s k links given lessee log keeps here stands =
    talks_again s k links _ _ given _ _
    (c.finish.ensures.talks s k _ given lessee log keeps (now_at k _ _ links here)
    (invoked_on s k links given _ _ _ lessee c.args.method.now c.args.reference.now log c.head_of-head.result c.in-Ok.answer here stands c.head_of-head.ensures (c.in-Ok.ensures.asks c.requires)))

pub returns-in-Err-clause-talks : goal.returns-in-Err-clause-talks
returns-in-Err-clause-talks g c s k links given lessee log keeps here stands =
    uninvoked_on s k links given _ _ _ lessee c.args.method.now c.args.reference.now log c.head_of-head.result c.in-Err.end here stands c.head_of-head.ensures (c.in-Err.ensures.asks c.requires)
