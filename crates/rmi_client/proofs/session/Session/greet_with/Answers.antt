use Rattle.std.proofs.Common.{Err, ap}
use Rattle.rmi_client.proofs.Asking.{not_begun}
use Rattle.rmi_client.proofs.session.Session.greet_with.Goals as goal

pub returns-in-Err-clause-begins : goal.returns-in-Err-clause-begins
returns-in-Err-clause-begins g c = not_begun _ _ _ _ (λ same. c.in-Err.ensures.memory (ap Err same)) c.in-Err.ensures.asks
