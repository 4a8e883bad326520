use Rattle.std.specs.Prelude.{FitsSigned}
use Rattle.std.specs.Int.{w64}
use Rattle.std.proofs.Common.{length, rules}
use Rattle.std.proofs.lemmas.Int.{to_z-of_z}
use Rattle.object_ids.specs.declared.limits.TheConstants.{MAX_ADDRESS_BYTES}
use Rattle.java_shapes.specs.Shapes.{LeaseAt}
use Rattle.java_shapes.proofs.Built.{short_enough, lease_seen}
use Rattle.java_shapes.proofs.leases.put_lease.Goals as goal

pub returns-in-Ok-clause-viewed : goal.returns-in-Ok-clause-viewed
returns-in-Ok-clause-viewed c =
    let fits : FitsSigned w64 c.args.value = search rules in
    let put : LeaseAt c.put_some_lease.new.b c.args.value c.args.vmid.now c.in-Ok.slot = rw (to_z-of_z w64 c.args.value fits) at c.in-Ok.ensures.puts.1 in
    lease_seen c.put_some_lease.new.b c.args.value c.args.vmid.now c.in-Ok.slot put (short_enough (length c.args.vmid.now.addr) MAX_ADDRESS_BYTES c.put_some_lease.ensures.short)
