use Rattle.std.proofs.Common.{ap, sym, ◌∙◌}
use Rattle.std.specs.Prelude.{unwrap_or}
use Rattle.space.proofs.RunLists.{one-counted, none-counted}
use Rattle.space.proofs.runs.count_of.Goals as goal

pub returns-in-Some : goal.returns-in-Some
returns-in-Some c =
    sym (one-counted c.args.run.now c.args.counts.now.entries c.get_index_of.ensures.unique ∙ ap (λ v. unwrap_or v 0) (sym c.in-Some.ensures.value ∙ c.index.ensures))

pub returns-in-None : goal.returns-in-None
returns-in-None c = sym (none-counted c.args.run.now c.args.counts.now.entries c.get_index_of.ensures.unique (sym c.in-None.ensures.found))
