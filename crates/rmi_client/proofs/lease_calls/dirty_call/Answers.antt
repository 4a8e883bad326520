use Rattle.std.proofs.Common.{rules, FitsSigned}
use Rattle.std.specs.Int.{w64}
use Rattle.std.proofs.lemmas.Int.{to_z-of_z}
use Rattle.rmi_client.proofs.Leasing.{objids_grown, dirty_built}
use Rattle.rmi_client.proofs.lease_calls.dirty_call.Goals as goal

pub returns : goal.returns
returns c =
    let fits : FitsSigned w64 c.args.asked.now = search rules in
    dirty_built c.put_lease.new.b c.args.vmid.now c.args.ids.now c.args.number.now c.args.asked.now c.in_ok-objects.objects c.in_ok-lease.lease _ _ c.built_call.result c.collector_head.ensures c.in_ok-arguments.ensures
    (objids_grown c.in_ok-lease.ensures.grown c.args.ids.now c.in_ok-objects.objects c.in_ok-objects.ensures.ok) (rw (to_z-of_z w64 c.args.asked.now fits) at c.in_ok-lease.ensures.ok) c.built_call.ensures
