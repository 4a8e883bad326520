use Rattle.std.proofs.Common.{[], ◌∷◌, ◌∙◌, inl, sym}
use Rattle.wire_io.specs.Wire.{Gave-append}
use Rattle.dgc_client.specs.Log.{Drops}
use Rattle.rmi_caller.proofs.Lending.{planned_as}
use Rattle.rmi_caller.proofs.remote.Remote.give_up.Goals as goal

pub returns-in-Some-clause-leases : goal.returns-in-Some-clause-leases
returns-in-Some-clause-leases g c =
    let (more, rest) = c.send.ensures.gave in (
      c.now-now.result,
      (more, Gave-append _ _ _ (c.now-now.result ∷ []) more c.now-now.ensures.given rest),
      inl (λ client first log stands.
          planned_as client first (Drops c.args.self.now.object c.now-now.result ∷ log) _ _ _ _ _ _ _ (sym c.in-Some.is ∙ c.in_ok-plan.ensures.plan client first log stands)
          (c.send.ensures.leases client first (Drops c.args.self.now.object c.now-now.result ∷ log) (c.in_ok-plan.ensures.ok client first log stands))),
    )
