use Rattle.std.proofs.Common.{subst}
use Rattle.std.specs.Prelude.{IfOk}
use Rattle.rmi_cli.specs.Called.{IsRequestOf}
use Rattle.rmi_cli.proofs.Calling.{asked}
use Rattle.rmi_cli.proofs.call_output.call_object.Goals as goal

pub returns-in-Ok-clause-calls : goal.returns-in-Ok-clause-calls
returns-in-Ok-clause-calls g c seed call is = asked seed call c.in-Ok.request _ _ _ _ _ (subst (λ r. IfOk r (IsRequestOf seed call)) c.in-Ok.is is) c.ask_object.ensures.asks
