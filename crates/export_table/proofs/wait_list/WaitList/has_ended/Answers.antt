use Rattle.std.proofs.Common.{ap, sym, length, ◌∙◌}
use Rattle.std.specs.Prelude.{not, nat_lt}
use Rattle.std.specs.List.{list_any}
use Rattle.export_table.specs.declared.waits.Wait.{Wait}
use Rattle.export_table.specs.Waits.{goes_on}
use Rattle.export_table.specs.WaitTable.{WaitTable}
use Rattle.export_table.proofs.Indexing.{some-any}
use Rattle.export_table.proofs.wait_list.WaitList.has_ended.Goals as goal

pub returns : goal.returns
returns c =
    c.has_ended.ensures
    ∙ sym (some-any (λ (w : Wait). not (goes_on c.args.time w)) c.due.result.now)
    ∙ ap (λ l. nat_lt 0 (length l)) c.due.ensures.over
    ∙ some-any (λ (w : Wait). not (goes_on c.args.time w)) c.self.inside.queue.waits
    ∙ ap (λ (t : WaitTable). list_any (λ w. not (goes_on c.args.time w)) t.waits) c.self.view_is
