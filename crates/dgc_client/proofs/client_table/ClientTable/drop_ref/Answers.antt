use Rattle.std.proofs.Common.{◌≡◌, ap, sym, ◌∙◌, refl, subst, true≢false, None, Some, [], ◌∷◌}
use Rattle.std.specs.Prelude.{true, is_some, IfOk, Result, Option}
use Rattle.dgc_client.specs.declared.plan.Plan.{Plan}
use Rattle.dgc_client.specs.declared.plan.Plan.TheVariants as plans
use Rattle.dgc_client.specs.declared.plan.ClientFault.{ClientFault}
use Rattle.dgc_client.specs.Log.{Drops, has_ref, refs, notes}
use Rattle.dgc_client.proofs.Told.{there-is, told-absent, told-drop, clean-none, clean-is, spent-is, on-ok, if-ok}
use Rattle.dgc_client.proofs.client_table.ClientTable.drop_ref.Goals as goal

pub returns-in-None-clause-ok : goal.returns-in-None-clause-ok
returns-in-None-clause-ok c client first calls s =
    told-absent client first c.args.self.now c.args.object c.args.now calls s (sym (there-is client first c.args.self.now c.args.object calls s) ∙ ap is_some (sym c.find.ensures ∙ c.in-None.is))

pub returns-in-None-clause-plan : goal.returns-in-None-clause-plan
returns-in-None-clause-plan c client first calls s =
    sym (clean-none client first c.args.self.now c.args.object c.args.now calls s (sym (there-is client first c.args.self.now c.args.object calls s) ∙ ap is_some (sym c.find.ensures ∙ c.in-None.is)))

pub returns-in-None-clause-absent : goal.returns-in-None-clause-absent
returns-in-None-clause-absent c client first calls s =
    (λ h. sym (there-is client first c.args.self.now c.args.object calls s) ∙ ap is_some (sym c.find.ensures ∙ c.in-None.is), λ h. refl)

pub returns-in-None-clause-spent : goal.returns-in-None-clause-spent
returns-in-None-clause-spent c client first calls s =
    let none = clean-none client first c.args.self.now c.args.object c.args.now calls s (sym (there-is client first c.args.self.now c.args.object calls s) ∙ ap is_some (sym c.find.ensures ∙ c.in-None.is)) in
    (λ h. absurd (cc), λ h. absurd (true≢false (sym h ∙ sym (spent-is client first c.args.self.now (Drops c.args.object c.args.now) None calls s (sym none)))))

pub returns-in-Some-clause-ok : goal.returns-in-Some-clause-ok
returns-in-Some-clause-ok c =
    on-ok c.release.result
    (λ e. λ client first calls s. told-drop client first c.args.self.now c.release.new.self c.args.object c.args.now calls s
    (sym (there-is client first c.args.self.now c.args.object calls s) ∙ ap is_some (sym c.find.ensures ∙ c.in-Some.is)) e)
    c.release.ensures.ok

pub returns-in-Some-clause-plan : goal.returns-in-Some-clause-plan
returns-in-Some-clause-plan c =
    if-ok c.release.result
    (λ x e. λ client first calls s. e ∙ clean-is client first c.args.self.now c.args.object c.args.now c.in-Some.reference calls s (sym c.find.ensures ∙ c.in-Some.is))
    c.release.ensures.plan

pub returns-in-Some-clause-absent : goal.returns-in-Some-clause-absent
returns-in-Some-clause-absent c client first calls s =
    let there : has_ref c.args.object (refs first (notes first calls)) ≡ true = sym (there-is client first c.args.self.now c.args.object calls s) ∙ ap is_some (sym c.find.ensures ∙ c.in-Some.is) in
    let plan : Option Plan = Some (plans.Clean (c.args.self.now).next (c.args.object ∷ []) c.in-Some.reference.strong) in (
      λ h. let p : None ≡ plan = subst (λ (r : Result (Option Plan) ClientFault). IfOk r (λ x. x ≡ plan)) h c.release.ensures.plan in absurd (true≢false (sym (ap is_some p))),
      λ h. absurd (true≢false (sym there ∙ h)),
    )

pub returns-in-Some-clause-spent : goal.returns-in-Some-clause-spent
returns-in-Some-clause-spent c client first calls s =
    let same = spent-is client first c.args.self.now (Drops c.args.object c.args.now) (Some (plans.Clean (c.args.self.now).next (c.args.object ∷ []) c.in-Some.reference.strong)) calls s
    (clean-is client first c.args.self.now c.args.object c.args.now c.in-Some.reference calls s (sym c.find.ensures ∙ c.in-Some.is)) in
    (λ h. sym same ∙ c.release.ensures.spent.0 h, λ h. c.release.ensures.spent.1 (same ∙ h))
