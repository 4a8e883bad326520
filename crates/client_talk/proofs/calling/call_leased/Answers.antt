use Rattle.std.proofs.Common.{[], ◌∷◌}
use Rattle.object_ids.specs.Bytes.{bytes_of_uid}
use Rattle.client_talk.specs.Calling.{calls}
use Rattle.client_talk.specs.Talk.{linked}
use Rattle.client_talk.proofs.Stepping.{at_second}
use Rattle.client_talk.proofs.calling.call_leased.Goals as goal

pub returns-in-Ok-clause-talks : goal.returns-in-Ok-clause-talks
returns-in-Ok-clause-talks g c s b0 b1 given lessee keeps stands =
    let (log, keeps2, held) = c.in-Ok.ensures.notes s 1 (linked b0 _ ∷ linked b1 _ ∷ []) given lessee [] (calls lessee c.args.method.now (bytes_of_uid c.args.found.now.uid) c.args.found.now.reference) keeps (at_second b0 b1 _ _) stands in
    c.call_held.ensures.talks s b0 b1 given lessee log keeps2 held

pub returns-in-Err-clause-talks : goal.returns-in-Err-clause-talks
returns-in-Err-clause-talks g c s b0 b1 given lessee keeps stands =
    c.in-Err.ensures.notes s 1 (linked b0 _ ∷ linked b1 _ ∷ []) given lessee [] (calls lessee c.args.method.now (bytes_of_uid c.args.found.now.uid) c.args.found.now.reference) keeps (at_second b0 b1 _ _) stands
