use Rattle.std.proofs.Common.{sym, ap, length, ◌∙◌, arith}
use Rattle.space.specs.Runs.{is_run}
use Rattle.space.specs.RunTable.{all_calls}
use Rattle.space.proofs.RunLists.{as-many}
use Rattle.space.proofs.RunSteps.{length-without, without-none}
use Rattle.space.proofs.runs.Runs.end_one.Goals as goal

pub invariant_of-self : goal.invariant_of-self
invariant_of-self c =
    let fewer = length-without (is_run c.args.by c.args.object.now) (all_calls c.self.inside.counts) (sym c.lower.ensures.ended ∙ c.if-lower.true) in
    (omega (arith, c.self.invariant.0, as-many _ _ c.lower.ensures.rest, fewer), c.lower.ensures.positive)

pub invariant_of-self-else-lower : goal.invariant_of-self-else-lower
invariant_of-self-else-lower c =
    let same = ap length (without-none (is_run c.args.by c.args.object.now) (all_calls c.self.inside.counts) (sym c.lower.ensures.ended ∙ c.if-lower.false)) in
    (omega (arith, c.self.invariant.0, as-many _ _ c.lower.ensures.rest, same), c.lower.ensures.positive)
