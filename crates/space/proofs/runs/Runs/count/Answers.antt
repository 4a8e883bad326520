use Rattle.std.proofs.Common.{arith, ap}
use Rattle.std.specs.Prelude.{length}
use Rattle.space.specs.Runs.{is_run}
use Rattle.space.specs.RunTable.{RunTable, all_calls}
use Rattle.dgc_server.proofs.Purging.{filter-fewer}
use Rattle.space.proofs.runs.Runs.count.Goals as goal

pub returns-clause-within : goal.returns-clause-within
returns-clause-within c =
    let all = ap (λ (t : RunTable). length t.items) c.self.view_is in
    omega (arith, all, c.count_of.ensures, filter-fewer (is_run c.args.by c.args.object.now) (all_calls c.self.inside.counts))
