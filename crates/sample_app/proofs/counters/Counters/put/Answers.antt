use Rattle.std.proofs.Common.{◌∙◌, w64}
use Rattle.std.proofs.lemmas.Int.{to_z-of_z}
use Rattle.sample_app.specs.Counters.{with_count}
use Rattle.sample_app.proofs.Counting.{put_in}
use Rattle.sample_app.proofs.counters.Counters.put.Goals as goal

pub returns-clause-ok : goal.returns-clause-ok
returns-clause-ok c = c.in_ok-insert.ensures.entries ∙ put_in c.self.inside.pairs.entries c.args.object _
    ∙ (λ i. with_count (c.self.view_is i) c.args.object (to_z-of_z w64 c.args.count c.ranges.count i))
