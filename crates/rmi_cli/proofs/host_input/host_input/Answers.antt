use Rattle.std.proofs.Common.{inl, inr, refl}
use Rattle.rmi_cli.specs.declared.end.RunEnd.TheVariants.{OutOfMemory}
use Rattle.rmi_cli.proofs.Hosting.{telling_none}
use Rattle.rmi_cli.proofs.host_input.host_input.Goals as goal

pub returns-in-Ok-clause-hosts : goal.returns-in-Ok-clause-hosts
returns-in-Ok-clause-hosts g c seed asked are = c.host_on.ensures.hosts seed asked (rw c.in-Ok.is at are)

pub returns-in-Err-clause-hosts : goal.returns-in-Err-clause-hosts
returns-in-Err-clause-hosts g c seed asked are = telling_none _ _ _ _ seed asked _ _ OutOfMemory (inr refl)

pub returns-in-Err-clause-closes : goal.returns-in-Err-clause-closes
returns-in-Err-clause-closes g c = inl refl
