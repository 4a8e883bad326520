use Rattle.std.proofs.Common.{refl, ◌∙◌}
use Rattle.rmi_client.specs.declared.end.ClientEnd.TheVariants.{OutOfMemory}
use Rattle.client_talk.specs.Calling.{winds_up}
use Rattle.client_talk.specs.Contents.{returned}
use Rattle.client_talk.specs.declared.end.CommandEnd.TheVariants.{Session}
use Rattle.client_talk.proofs.Holding.{holds_as}
use Rattle.client_talk.proofs.Leasing.{memory_on}
use Rattle.client_talk.proofs.calling.settle.Goals as goal

pub returns-in-Ok-clause-talks : goal.returns-in-Ok-clause-talks
returns-in-Ok-clause-talks g c s k links given lessee log keeps here stands =
    c.settle_with.ensures.talks s k links given lessee log keeps here
    (holds_as s links given _ k lessee _ _ log (winds_up k lessee (returned c.args.answer.now)) (c.as_slice.ensures ∙ c.in-Ok.ensures) stands)

pub returns-in-Err-clause-talks : goal.returns-in-Err-clause-talks
returns-in-Err-clause-talks g c s k links given lessee log keeps here stands = memory_on s _ k links given _ _ (Session OutOfMemory) here stands refl
