use Rattle.std.proofs.Common.{Ok, Err, w64, rules}
use Rattle.std.specs.Prelude.{FitsSigned}
use Rattle.std.proofs.lemmas.Int.{to_z-of_z}
use Rattle.client_talk.proofs.Leasing.{few_renewed, sent_as}
use Rattle.client_talk.proofs.leases.send.Goals as goal

pub returns-in-Ok-clause-asks : goal.returns-in-Ok-clause-asks
returns-in-Ok-clause-asks g c lessee log keeps =
    let fits : FitsSigned w64 c.args.leases.now.asked = search rules in
    sent_as lessee log c.args.leases.now c.args.plan.now _ _ _ _ (Ok c.in-Ok.granted) keeps (c.vmid.ensures lessee.client lessee.first log keeps.stands)
    (to_z-of_z w64 c.args.leases.now.asked fits) (c.in-Ok.ensures.asks c.requires)

pub returns-in-Ok-clause-few : goal.returns-in-Ok-clause-few
returns-in-Ok-clause-few g c = few_renewed _ c.args.plan.now _ _ _ c.in-Ok.granted (c.in-Ok.ensures.asks c.requires)

pub returns-in-Err-clause-asks : goal.returns-in-Err-clause-asks
returns-in-Err-clause-asks g c lessee log keeps =
    let fits : FitsSigned w64 c.args.leases.now.asked = search rules in
    sent_as lessee log c.args.leases.now c.args.plan.now _ _ _ _ (Err c.in-Err.end) keeps (c.vmid.ensures lessee.client lessee.first log keeps.stands)
    (to_z-of_z w64 c.args.leases.now.asked fits) (c.in-Err.ensures.asks c.requires)
