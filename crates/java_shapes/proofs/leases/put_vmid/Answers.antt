use Rattle.std.proofs.Common.{length}
use Rattle.object_ids.specs.declared.limits.TheConstants.{MAX_ADDRESS_BYTES}
use Rattle.java_shapes.proofs.Built.{short_enough, vmid_seen}
use Rattle.java_shapes.proofs.leases.put_vmid.Goals as goal

pub returns-in-Ok-clause-viewed : goal.returns-in-Ok-clause-viewed
returns-in-Ok-clause-viewed c = vmid_seen c.put_some_vmid.new.b c.args.vmid.now c.in-Ok.slot c.in-Ok.ensures.puts.1 (short_enough (length c.args.vmid.now.addr) MAX_ADDRESS_BYTES c.put_some_vmid.ensures.short)
