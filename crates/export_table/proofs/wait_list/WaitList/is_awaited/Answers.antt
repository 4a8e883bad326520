use Rattle.std.proofs.Common.{ap, ◌∙◌}
use Rattle.std.specs.Prelude.{nat_lt, ◌&&◌}
use Rattle.object_ids.specs.Same.{same_id}
use Rattle.export_table.specs.declared.waits.Wait.{Wait}
use Rattle.export_table.specs.Waits.{goes_on}
use Rattle.export_table.proofs.Indexing.{some-any}
use Rattle.export_table.proofs.wait_list.WaitList.is_awaited.Goals as goal

pub returns : goal.returns
returns c = ap (nat_lt 0) c.count_of.ensures.value ∙ some-any (λ (w : Wait). goes_on c.args.time w && same_id w.object c.args.object.now) c.args.self.now.waits
