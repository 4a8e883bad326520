use Rattle.std.proofs.Common.{◌+◌, ap, ◌∙◌}
use Rattle.std.specs.Prelude.{if◌then◌else◌}
use Rattle.object_ids.specs.Same.{same_id}
use Rattle.export_table.proofs.Counting.{put-count, raised}
use Rattle.export_table.specs.WaitIndex.{count_at}
use Rattle.export_table.proofs.counts.raise.Goals as goal

pub returns-in-Ok-clause-counts : goal.returns-in-Ok-clause-counts
returns-in-Ok-clause-counts c =
    raised c.args.object.now c.args.counts.now c.insert.new.self
    (λ o. put-count c.args.object.now (c.count_of-count.result + 1) c.args.counts.now c.insert.new.self c.in-Ok.ensures.updates.0 o
    ∙ ap (λ n. if same_id c.args.object.now o then n + 1 else count_at c.args.counts.now o) c.count_of-count.ensures)
