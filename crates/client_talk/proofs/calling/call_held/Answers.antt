use Rattle.std.proofs.Common.{[], ◌∷◌}
use Rattle.client_talk.specs.Calling.{invokes}
use Rattle.client_talk.specs.Talk.{linked}
use Rattle.client_talk.proofs.Stepping.{at_first, at_second}
use Rattle.client_talk.proofs.calling.call_held.Goals as goal

pub returns-in-Ok-clause-talks : goal.returns-in-Ok-clause-talks
returns-in-Ok-clause-talks g c s b0 b1 given lessee log keeps stands =
    c.invoke.ensures.talks s 1 (linked b0 _ ∷ linked b1 _ ∷ []) given lessee log keeps (at_second b0 b1 _ _)
    (c.in-Ok.ensures.acks s 0 (linked b0 _ ∷ linked b1 _ ∷ []) given _ (invokes 1 lessee c.args.method.now c.args.found.now.reference log) (at_first b0 b1 _ _) stands)

pub returns-in-Err-clause-talks : goal.returns-in-Err-clause-talks
returns-in-Err-clause-talks g c s b0 b1 given lessee log keeps stands =
    c.in-Err.ensures.acks s 0 (linked b0 _ ∷ linked b1 _ ∷ []) given _ (invokes 1 lessee c.args.method.now c.args.found.now.reference log) (at_first b0 b1 _ _) stands
