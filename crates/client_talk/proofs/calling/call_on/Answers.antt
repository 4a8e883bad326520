use Rattle.std.proofs.Common.{[], ◌∷◌, refl}
use Rattle.rmi_client.specs.declared.end.ClientEnd.TheVariants.{OutOfMemory}
use Rattle.client_talk.specs.Calling.{lessee_of}
use Rattle.client_talk.specs.Talk.{linked}
use Rattle.client_talk.specs.declared.end.CommandEnd.TheVariants.{Session}
use Rattle.client_talk.proofs.Stepping.{memory_here}
use Rattle.client_talk.proofs.calling.call_on.Goals as goal

pub returns-in-Ok-clause-talks : goal.returns-in-Ok-clause-talks
returns-in-Ok-clause-talks g c s b0 b1 given stands = c.call_with.ensures.talks s b0 b1 given (lessee_of c.args.request.now.caller) c.in-Ok.ensures stands

pub returns-in-Err-clause-talks : goal.returns-in-Err-clause-talks
returns-in-Err-clause-talks g c s b0 b1 given stands = memory_here s _ (linked b0 _ ∷ linked b1 _ ∷ []) given _ (Session OutOfMemory) stands refl
