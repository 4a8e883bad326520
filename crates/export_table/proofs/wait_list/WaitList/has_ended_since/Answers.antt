use Rattle.std.proofs.Common.{ap, sym, ◌∙◌}
use Rattle.std.specs.List.{list_any}
use Rattle.export_table.specs.Waits.{ends_between, goes_on}
use Rattle.export_table.specs.WaitTable.{WaitTable}
use Rattle.export_table.proofs.Ends.{any-over-of}
use Rattle.export_table.proofs.wait_list.WaitList.has_ended_since.Goals as goal

pub returns : goal.returns
returns c =
    c.has_ended_since.ensures
    ∙ any-over-of c.args.to (goes_on c.args.from) c.due.result.now
    ∙ ap (list_any (goes_on c.args.from)) c.due.ensures.over
    ∙ sym (any-over-of c.args.to (goes_on c.args.from) c.self.inside.queue.waits)
    ∙ ap (λ (t : WaitTable). list_any (ends_between c.args.from c.args.to) t.waits) c.self.view_is
