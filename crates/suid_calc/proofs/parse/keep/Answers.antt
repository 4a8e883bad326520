use Rattle.std.proofs.Common.{ℕ, sym, ◌∙◌, Vec, Global}
use Rattle.suid_calc.proofs.KeptLaws.{kept_answer, new_answer, kept_with, values_with}
use Rattle.suid_calc.proofs.parse.keep.Goals as goal

pub returns-then-contains_key-clause-ok : goal.returns-then-contains_key-clause-ok
returns-then-contains_key-clause-ok c =
    kept_answer (λ (k : Vec ℕ Global). k.items) c.args.kept.now.entries c.args.member c.as_slice.result.now (c.as_slice.ensures.value ∙ c.in_ok-key.ensures) c.requires.good c.requires.kept (sym c.contains_key.ensures ∙ c.if-contains_key.true)

pub returns-in-Ok-clause-kept : goal.returns-in-Ok-clause-kept
returns-in-Ok-clause-kept c =
    rw c.in-Ok.ensures.entries
    (kept_with (λ (k : Vec ℕ Global). k.items) c.args.kept.now.entries c.in_ok-key.key c.args.member c.as_slice.result.now c.as_slice.ensures.value c.in_ok-key.ensures c.requires.good c.requires.kept (sym c.contains_key.ensures ∙ c.if-contains_key.false))

pub returns-in-Ok-clause-ok : goal.returns-in-Ok-clause-ok
returns-in-Ok-clause-ok c = (
  new_answer (λ (k : Vec ℕ Global). k.items) c.args.kept.now.entries c.args.member c.as_slice.result.now (c.as_slice.ensures.value ∙ c.in_ok-key.ensures) c.requires.kept (sym c.contains_key.ensures ∙ c.if-contains_key.false),
  rw c.in-Ok.ensures.entries
      (values_with (λ (k : Vec ℕ Global). k.items) c.args.kept.now.entries c.in_ok-key.key c.args.member c.as_slice.result.now c.as_slice.ensures.value (sym c.contains_key.ensures ∙ c.if-contains_key.false)),
)
