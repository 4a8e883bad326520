use Rattle.std.proofs.Common.{[], subst}
use Rattle.std.specs.Prelude.{Result}
use Rattle.dgc_client.specs.Log.{Dues}
use Rattle.rmi_client.specs.Sessions.{link_of}
use Rattle.rmi_caller.specs.declared.error.CallError.{CallError}
use Rattle.rmi_caller.specs.Leasing.{LeasesAfter}
use Rattle.rmi_caller.proofs.Taking.{lease_taken}
use Rattle.rmi_caller.proofs.Telling.{on_ok}
use Rattle.rmi_caller.proofs.remote.Remote.register.Goals as goal

pub returns-clause-leases : goal.returns-clause-leases
returns-clause-leases g c = on_ok c.renew.result _ (λ is client first stands.
    let (now, gave, leases) = c.renew.ensures.leases in
    lease_taken client first c.args.self.now.object now c.register.new.self c.renew.new.self.table c.args.self.now.session.is_over _ _ c.requires
    (c.in_ok-register.ensures.ok client first [] stands)
    (subst (λ (r : Result (Unit {0}) CallError). LeasesAfter (Dues now) c.register.new.self c.renew.new.self.table c.args.self.now.session.is_over
    (link_of g.D.In.Source.half g.D.Out.Sink.half c.args.self.now.session) (link_of g.D.In.Source.half g.D.Out.Sink.half c.renew.new.self.session) r) is leases))
