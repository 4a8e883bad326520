use Rattle.std.proofs.Common.{◌+◌, ap, sym, ◌∙◌, arith}
use Rattle.std.specs.Prelude.{unwrap_or}
use Rattle.space.proofs.RunLists.{few-counted, positive-raised, raised, recounted}
use Rattle.space.proofs.runs.raise.Goals as goal

pub overflow_add-before : goal.overflow_add-before
overflow_add-before c =
    let was = ap (λ v. unwrap_or v 0) (sym c.in-Ok-default-Some.field-0-1-is ∙ c.in-Ok-default-Some.ensures.old) in
    omega (arith, was, few-counted c.args.run c.args.counts.now.entries, c.requires.few)

pub returns-in-Ok-default-Some-clause-calls : goal.returns-in-Ok-default-Some-clause-calls
returns-in-Ok-default-Some-clause-calls c =
    let was = ap (λ v. unwrap_or v 0) (sym c.in-Ok-default-Some.field-0-1-is ∙ c.in-Ok-default-Some.ensures.old) in
    raised c.args.run c.in-Ok-default-Some.before c.args.counts.now.entries _ was
    (recounted c.args.run c.args.counts.now.entries c.insert_full.new.self.entries c.in-Ok-default-Some.at 1 (c.in-Ok-default-Some.before + 1) c.in-Ok-default-Some.ensures.entries c.in-Ok-default-Some.ensures.index)

pub returns-in-Ok-default-Some-clause-positive : goal.returns-in-Ok-default-Some-clause-positive
returns-in-Ok-default-Some-clause-positive c =
    positive-raised c.args.run c.in-Ok-default-Some.before c.args.counts.now.entries _
    (recounted c.args.run c.args.counts.now.entries c.insert_full.new.self.entries c.in-Ok-default-Some.at 1 (c.in-Ok-default-Some.before + 1) c.in-Ok-default-Some.ensures.entries c.in-Ok-default-Some.ensures.index) c.requires.positive

pub returns-in-Ok-default-None-clause-calls : goal.returns-in-Ok-default-None-clause-calls
returns-in-Ok-default-None-clause-calls c =
    let was = ap (λ v. unwrap_or v 0) (sym c.in-Ok-default-None.field-0-1-is ∙ c.in-Ok-default-None.ensures.old) in
    raised c.args.run 0 c.args.counts.now.entries _ was c.in-Ok-default-None.ensures.entries

pub returns-in-Ok-default-None-clause-positive : goal.returns-in-Ok-default-None-clause-positive
returns-in-Ok-default-None-clause-positive c = positive-raised c.args.run 0 c.args.counts.now.entries _ c.in-Ok-default-None.ensures.entries c.requires.positive
