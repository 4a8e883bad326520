use Rattle.std.proofs.Common.{ap, sym, ◌∙◌}
use Rattle.std.specs.Prelude.{nat_lt}
use Rattle.history.proofs.ListLemmas.{list_any-length}
use Rattle.space.specs.Runs.{is_run}
use Rattle.space.proofs.runs.Runs.is_running.Goals as goal

pub returns : goal.returns
returns c = ap (nat_lt 0) c.count.ensures.value ∙ sym (list_any-length (is_run c.args.by c.args.object.now) c.args.self.now.items)
