use Rattle.std.proofs.Common.{[], ◌∷◌, ◌∙◌, arith, length-append}
use Rattle.space.specs.RunTable.{all_calls}
use Rattle.space.proofs.RunLists.{as-many}
use Rattle.space.proofs.runs.Runs.put.Goals as goal

pub invariant_of-self : goal.invariant_of-self
invariant_of-self c =
    let more = as-many _ _ c.raise.ensures.calls ∙ length-append (all_calls c.self.inside.counts) (c.args.run ∷ []) in
    (omega (arith, c.self.invariant.0, more), c.raise.ensures.positive)
