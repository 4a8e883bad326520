use Rattle.std.proofs.Common.{Ok, Err, refl, ap, ◌∙◌, w64, rules}
use Rattle.std.specs.Prelude.{FitsSigned}
use Rattle.std.proofs.lemmas.Int.{to_z-of_z}
use Rattle.rmi_client.specs.Sessions.{link_of}
use Rattle.rmi_caller.proofs.Lending.{sent_by}
use Rattle.rmi_caller.proofs.remote.Remote.send.Goals as goal

pub returns-in-Ok-clause-leases : goal.returns-in-Ok-clause-leases
returns-in-Ok-clause-leases g c client first log stands =
    let fits : FitsSigned w64 c.number_of_plan.result = search rules in (
      Ok c.in-Ok.granted,
      sent_by c.vmid.result.now client c.args.plan.now c.args.self.now.session.is_over _ _ (Ok c.in-Ok.granted) (c.vmid.ensures client first log stands)
          (λ over. ((c.in-Ok.ensures.over over).0, ap (link_of g.D.In.Source.half g.D.Out.Sink.half) (c.in-Ok.ensures.over over).1)) c.in-Ok.ensures.asks,
      (c.now-now.result, rw (to_z-of_z w64 c.number_of_plan.result fits ∙ c.number_of_plan.ensures, c.min.ensures) at c.answered.ensures.stands client first log stands),
      refl,
    )

pub returns-in-Err-clause-leases : goal.returns-in-Err-clause-leases
returns-in-Err-clause-leases g c client first log stands =
    let fits : FitsSigned w64 c.number_of_plan-in-Err.result = search rules in (
      Err c.in-Err.end,
      sent_by c.vmid.result.now client c.args.plan.now c.args.self.now.session.is_over _ _ (Err c.in-Err.end) (c.vmid.ensures client first log stands)
          (λ over. ((c.in-Err.ensures.over over).0, ap (link_of g.D.In.Source.half g.D.Out.Sink.half) (c.in-Err.ensures.over over).1)) c.in-Err.ensures.asks,
      rw (to_z-of_z w64 c.number_of_plan-in-Err.result fits ∙ c.number_of_plan-in-Err.ensures) at c.failed.ensures client first log stands,
      (c.error_of.result, refl, c.error_of.ensures.is),
    )
