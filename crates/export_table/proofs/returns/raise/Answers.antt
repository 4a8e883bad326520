use Rattle.std.proofs.Common.{◌+◌, ap, ◌∙◌}
use Rattle.std.specs.Prelude.{if◌then◌else◌}
use Rattle.object_ids.specs.Same.{same_uid}
use Rattle.export_table.specs.WaitIndex.{returned_at}
use Rattle.export_table.proofs.Returning.{put-returned, raised-returned}
use Rattle.export_table.proofs.returns.raise.Goals as goal

pub returns-in-Ok-clause-counts : goal.returns-in-Ok-clause-counts
returns-in-Ok-clause-counts c =
    raised-returned c.args.uid.now c.args.returns.now c.insert.new.self
    (λ u. put-returned c.args.uid.now (c.count_of-count.result + 1) c.args.returns.now c.insert.new.self c.in-Ok.ensures.updates.0 u
    ∙ ap (λ n. if same_uid c.args.uid.now u then n + 1 else returned_at c.args.returns.now u) c.count_of-count.ensures)
