use Rattle.rmi_caller.specs.declared.error.Wanted.TheVariants.{Reference}
use Rattle.rmi_caller.proofs.Telling.{if_ok, refers}
use Rattle.rmi_caller.proofs.remote.Remote.follow.Goals as goal

pub returns-clause-held : goal.returns-clause-held
returns-clause-held g c =
    if_ok c.hold_found.result _ _ (λ remote h. (c.in_ok-reference.reference, refers c.args.answer.now Reference c.in_ok-reference.reference c.in_ok-reference.ensures.read, h.0, rw (c.uid.ensures) at h.1)) c.hold_found.ensures.held
