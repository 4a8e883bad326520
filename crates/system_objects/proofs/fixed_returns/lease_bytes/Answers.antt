use Rattle.system_objects.proofs.FixedReturns.{lease_is}
use Rattle.system_objects.proofs.fixed_returns.lease_bytes.Goals as goal

pub returns : goal.returns
returns c = lease_is c.args.uid c.args.duration.now c.args.client.now _ c.in_ok-bytes.ensures
