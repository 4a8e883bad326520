use Rattle.std.proofs.Common.{ap, sym, ◌∙◌, refl, true≢false}
use Rattle.std.specs.Prelude.{not}
use Rattle.dgc_client.proofs.Told.{there-is, told-there, told-new, full-is}
use Rattle.dgc_client.proofs.client_table.ClientTable.register.Goals as goal

pub returns-then-is_there-clause-ok : goal.returns-then-is_there-clause-ok
returns-then-is_there-clause-ok c client first calls s =
    told-there client first c.args.self.now c.args.object calls s (sym (there-is client first c.args.self.now c.args.object calls s) ∙ sym c.is_there.ensures ∙ c.if-is_there.true)

pub returns-then-is_there-clause-answer : goal.returns-then-is_there-clause-answer
returns-then-is_there-clause-answer c client first calls s =
    sym (ap not (sym (there-is client first c.args.self.now c.args.object calls s) ∙ sym c.is_there.ensures ∙ c.if-is_there.true))

pub returns-then-is_there-clause-full : goal.returns-then-is_there-clause-full
returns-then-is_there-clause-full c client first calls s =
    (λ h. absurd (cc), λ h. absurd (true≢false (sym (sym (there-is client first c.args.self.now c.args.object calls s) ∙ sym c.is_there.ensures ∙ c.if-is_there.true) ∙ h.0)))

pub returns-then-is_full-clause-full : goal.returns-then-is_full-clause-full
returns-then-is_full-clause-full c client first calls s = (
  λ h. (
    sym (there-is client first c.args.self.now c.args.object calls s) ∙ sym c.is_there.ensures ∙ c.if-is_there.false,
    sym (full-is client first c.args.self.now calls s) ∙ sym c.is_full.ensures ∙ c.if-is_full.true,
  ),
  λ h. refl,
)

pub returns-clause-ok : goal.returns-clause-ok
returns-clause-ok c client first calls s =
    told-new client first c.args.self.now c.add.new.self c.args.object calls s (sym (there-is client first c.args.self.now c.args.object calls s) ∙ sym c.is_there.ensures ∙ c.if-is_there.false)
    c.in_ok-add.ensures.ok

pub returns-clause-answer : goal.returns-clause-answer
returns-clause-answer c client first calls s =
    sym (ap not (sym (there-is client first c.args.self.now c.args.object calls s) ∙ sym c.is_there.ensures ∙ c.if-is_there.false))
