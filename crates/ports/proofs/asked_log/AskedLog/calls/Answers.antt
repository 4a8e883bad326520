use Rattle.std.proofs.Common.{List, ap, ap₂, ◌∙◌, length, filter}
use Rattle.space.specs.declared.asked.Asked.{Asked}
use Rattle.ports.specs.AskedLog.{AskedRecord}
use Rattle.ports.specs.AskedRows.{entry_of_row}
use Rattle.ports.specs.Balance.{calls_in, is_start}
use Rattle.ports.proofs.ToldLaws.{calls_of_rows}
use Rattle.ports.proofs.asked_log.AskedLog.calls.Goals as goal

pub returns : goal.returns
returns c =
    c.starts_in.ensures
    ∙ (ap₂ (λ (wholes : List Asked) rows. length (filter (λ row. is_start (entry_of_row wholes row).end) rows)) c.as_slice.ensures.value c.as_slice-2.ensures.value
    ∙ (calls_of_rows c.self.inside.wholes.items c.self.inside.rows.items ∙ ap (λ (l : AskedRecord). calls_in l.items) c.self.view_is))
