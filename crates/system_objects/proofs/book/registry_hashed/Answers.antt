use Rattle.std.proofs.Common.{◌∙◌, sym, refl, true, false}
use Rattle.system_objects.proofs.SystemNames.{hashed_by}
use Rattle.system_objects.proofs.book.registry_hashed.Goals as goal

pub returns-then-same-3 : goal.returns-then-same-3
returns-then-same-3 c = sym (hashed_by c.args.hashes.now c.args.hash.now c.requires false false true _ _ (sym c.same.ensures ∙ c.if-same.false) (sym c.same-else-same.ensures ∙ c.if-same-2.false) (sym c.same-else-same-2.ensures ∙ c.if-same-3.true) refl refl)

pub returns-then-same-4 : goal.returns-then-same-4
returns-then-same-4 c = sym (hashed_by c.args.hashes.now c.args.hash.now c.requires false false false true _ (sym c.same.ensures ∙ c.if-same.false) (sym c.same-else-same.ensures ∙ c.if-same-2.false) (sym c.same-else-same-2.ensures ∙ c.if-same-3.false) (sym c.same-else-same-3.ensures ∙ c.if-same-4.true) refl)

pub returns-then-same-5 : goal.returns-then-same-5
returns-then-same-5 c = sym (hashed_by c.args.hashes.now c.args.hash.now c.requires false false false false true (sym c.same.ensures ∙ c.if-same.false) (sym c.same-else-same.ensures ∙ c.if-same-2.false) (sym c.same-else-same-2.ensures ∙ c.if-same-3.false) (sym c.same-else-same-3.ensures ∙ c.if-same-4.false) (sym c.same-else-same-4.ensures ∙ c.if-same-5.true))

pub returns-else-same-5 : goal.returns-else-same-5
returns-else-same-5 c = sym (hashed_by c.args.hashes.now c.args.hash.now c.requires false false false false false (sym c.same.ensures ∙ c.if-same.false) (sym c.same-else-same.ensures ∙ c.if-same-2.false) (sym c.same-else-same-2.ensures ∙ c.if-same-3.false) (sym c.same-else-same-3.ensures ∙ c.if-same-4.false) (sym c.same-else-same-4.ensures ∙ c.if-same-5.false))
