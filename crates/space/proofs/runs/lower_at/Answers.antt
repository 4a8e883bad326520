use Rattle.std.proofs.Common.{◌≡◌, ℕ, Option, IfSome, swap_remove, subst, ◌∙◌, arith}
use Rattle.space.specs.declared.runs.Run.{Run}
use Rattle.space.proofs.RunLists.{value-there, set-lower, gone-lower, positive-there, positive-set, positive-gone}
use Rattle.space.proofs.runs.lower_at.Goals as goal

pub returns-then-count-gt1-clause-rest : goal.returns-then-count-gt1-clause-rest
returns-then-count-gt1-clause-rest c e there =
    let count = value-there c.args.counts.now.entries c.args.at e c.index-count.result.now there c.index-count.ensures in
    set-lower c.args.counts.now.entries c.args.at e c.index-count.result.now there count c.if-count-gt1.true

pub returns-then-count-gt1-clause-positive : goal.returns-then-count-gt1-clause-positive
returns-then-count-gt1-clause-positive c =
    positive-set c.args.counts.now.entries c.args.at _ (omega (arith, c.if-count-gt1.true)) c.requires.positive

pub returns-else-count-gt1-clause-rest : goal.returns-else-count-gt1-clause-rest
returns-else-count-gt1-clause-rest c e there =
    let count = value-there c.args.counts.now.entries c.args.at e c.index-count.result.now there c.index-count.ensures in
    let some = positive-there c.args.counts.now.entries c.args.at e there c.requires.positive in
    let P : Option (Run × ℕ) → Type 0 = λ r. IfSome r (λ p. c.swap_remove_index.new.self.entries ≡ swap_remove c.args.counts.now.entries c.args.at p) in
    gone-lower c.args.counts.now.entries c.swap_remove_index.new.self.entries c.args.at e there (omega (arith, count, some, c.if-count-gt1.false)) (subst P (c.swap_remove_index.ensures.entry ∙ there) c.swap_remove_index.ensures.entries)

pub returns-else-count-gt1-clause-positive : goal.returns-else-count-gt1-clause-positive
returns-else-count-gt1-clause-positive c =
    positive-gone c.args.counts.now.entries c.swap_remove_index.new.self.entries c.args.at c.swap_remove_index.result c.requires.within c.swap_remove_index.ensures.entry c.swap_remove_index.ensures.entries c.requires.positive
