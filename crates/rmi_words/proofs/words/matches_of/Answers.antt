use Rattle.rmi_words.proofs.Taking.{taken, wrong}
use Rattle.rmi_words.proofs.words.matches_of.Goals as goal

pub returns-in-Ok-try_get_matches_from-clause-taken : goal.returns-in-Ok-try_get_matches_from-clause-taken
returns-in-Ok-try_get_matches_from-clause-taken c =
    taken _ _ _ c.in-Ok.ensures c.in-Ok-try_get_matches_from.ensures.kinds c.in-Ok-try_get_matches_from.ensures.matches

pub returns-in-Err-try_get_matches_from-clause-refused : goal.returns-in-Err-try_get_matches_from-clause-refused
returns-in-Err-try_get_matches_from-clause-refused c usage right =
    wrong _ _ c.in-Err-try_get_matches_from.error c.in-Ok.ensures c.in-Err-try_get_matches_from.ensures.kinds c.kind.result c.kind.ensures c.fault_of_kind.result c.fault_of_kind.ensures usage right
