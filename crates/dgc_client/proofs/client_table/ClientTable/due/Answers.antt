use Rattle.std.proofs.Common.{◌≡◌, sym, ◌∙◌, Some, None}
use Rattle.std.specs.Prelude.{int_le}
use Rattle.dgc_client.specs.declared.limits.TheConstants.{LAST_NUMBER}
use Rattle.dgc_client.specs.declared.plan.Plan.TheVariants as plans
use Rattle.dgc_client.specs.declared.plan.ClientFault.TheVariants as faults
use Rattle.dgc_client.specs.Log.{Dues, notes, objects_due}
use Rattle.dgc_client.proofs.Told.{due-is, told-idle, told-sent, dirty-is, idle-is, spent-is, on-ok, if-ok, not-so}
use Rattle.dgc_client.proofs.client_table.ClientTable.due.Goals as goal

pub returns-in-Some-clause-ok : goal.returns-in-Some-clause-ok
returns-in-Some-clause-ok c =
    on-ok c.send.result
    (λ e. λ client first calls s.
    let due : objects_due first (notes first calls) c.args.now ≡ Some c.in-Some.objects = sym (due-is client first c.args.self.now c.args.now calls s c.objects_due.ensures.once) ∙ sym c.in_ok-objects.ensures.value ∙ c.in-Some.is in
    told-sent client first c.args.self.now c.send.new.self c.args.now c.in-Some.objects calls s due e)
    c.send.ensures.ok

pub returns-in-Some-clause-plan : goal.returns-in-Some-clause-plan
returns-in-Some-clause-plan c =
    if-ok c.send.result
    (λ x e. λ client first calls s.
    let due : objects_due first (notes first calls) c.args.now ≡ Some c.in-Some.objects = sym (due-is client first c.args.self.now c.args.now calls s c.objects_due.ensures.once) ∙ sym c.in_ok-objects.ensures.value ∙ c.in-Some.is in
    e ∙ dirty-is client first c.args.self.now c.args.now c.in-Some.objects calls s due)
    c.send.ensures.plan

pub returns-in-Some-clause-spent : goal.returns-in-Some-clause-spent
returns-in-Some-clause-spent c = λ h client first calls s.
    let due : objects_due first (notes first calls) c.args.now ≡ Some c.in-Some.objects = sym (due-is client first c.args.self.now c.args.now calls s c.objects_due.ensures.once) ∙ sym c.in_ok-objects.ensures.value ∙ c.in-Some.is in
    sym (spent-is client first c.args.self.now (Dues c.args.now) (Some (plans.Dirty (c.args.self.now).next c.in-Some.objects)) calls s
    (dirty-is client first c.args.self.now c.args.now c.in-Some.objects calls s due))
    ∙ c.send.ensures.spent.0 h

pub returns-in-Some-clause-left : goal.returns-in-Some-clause-left
returns-in-Some-clause-left c =
    on-ok c.send.result
    (λ e. λ client first calls s.
    let due : objects_due first (notes first calls) c.args.now ≡ Some c.in-Some.objects = sym (due-is client first c.args.self.now c.args.now calls s c.objects_due.ensures.once) ∙ sym c.in_ok-objects.ensures.value ∙ c.in-Some.is in
    sym (spent-is client first c.args.self.now (Dues c.args.now) (Some (plans.Dirty (c.args.self.now).next c.in-Some.objects)) calls s
    (dirty-is client first c.args.self.now c.args.now c.in-Some.objects calls s due))
    ∙ e)
    (not-so c.send.result (int_le LAST_NUMBER (c.args.self.now).next) faults.NumbersSpent c.send.ensures.spent.1)

pub returns-in-None-clause-ok : goal.returns-in-None-clause-ok
returns-in-None-clause-ok c client first calls s =
    told-idle client first c.args.self.now c.rest.new.self c.args.now calls s
    (sym (due-is client first c.args.self.now c.args.now calls s c.objects_due.ensures.once) ∙ sym c.in_ok-objects.ensures.value ∙ c.in-None.is) c.rest.ensures

pub returns-in-None-clause-plan : goal.returns-in-None-clause-plan
returns-in-None-clause-plan c client first calls s =
    idle-is first c.args.now calls (sym (due-is client first c.args.self.now c.args.now calls s c.objects_due.ensures.once) ∙ sym c.in_ok-objects.ensures.value ∙ c.in-None.is)

pub returns-in-None-clause-left : goal.returns-in-None-clause-left
returns-in-None-clause-left c client first calls s =
    sym (spent-is client first c.args.self.now (Dues c.args.now) None calls s
    (idle-is first c.args.now calls (sym (due-is client first c.args.self.now c.args.now calls s c.objects_due.ensures.once) ∙ sym c.in_ok-objects.ensures.value ∙ c.in-None.is)))
