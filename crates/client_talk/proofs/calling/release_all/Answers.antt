use Rattle.std.proofs.Common.{refl, ◌∙◌}
use Rattle.rmi_client.specs.declared.end.ClientEnd.TheVariants.{OutOfMemory}
use Rattle.client_talk.specs.Scripts.{done}
use Rattle.client_talk.specs.declared.end.CommandEnd.TheVariants.{Session}
use Rattle.client_talk.proofs.Holding.{releases_as}
use Rattle.client_talk.proofs.Leasing.{memory_on, valued_on}
use Rattle.client_talk.proofs.calling.release_all.Goals as goal

pub returns-in-Ok-clause-talks : goal.returns-in-Ok-clause-talks
returns-in-Ok-clause-talks g c s k links given lessee log answer keeps here stands =
    valued_on s k links _ given _ lessee _ answer _
    (c.release_each.ensures.notes s k links given lessee log (λ log2. done answer) keeps here
    (releases_as s links given _ k lessee _ _ log (λ log2. done answer) (c.as_slice.ensures ∙ c.in-Ok.ensures lessee log keeps) stands))

pub returns-in-Err-clause-talks : goal.returns-in-Err-clause-talks
returns-in-Err-clause-talks g c s k links given lessee log answer keeps here stands = memory_on s _ k links given _ _ (Session OutOfMemory) here stands refl
