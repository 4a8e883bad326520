use Rattle.std.proofs.Common.{length, ap, ◌∙◌, arith}
use Rattle.export_table.specs.Waits.{still_waiting}
use Rattle.export_table.specs.WaitTable.{WaitTable}
use Rattle.export_table.proofs.Ends.{count-waiting}
use Rattle.export_table.proofs.wait_list.WaitList.count.Goals as goal

pub overflow_sub-result : goal.overflow_sub-result
overflow_sub-result c =
    let all = ap length c.waits.ensures in
    let out = c.count_over.ensures ∙ ap length c.due.ensures.over in
    let sum = count-waiting c.args.time c.self.inside.queue.waits in omega arith

pub returns-clause-value : goal.returns-clause-value
returns-clause-value c =
    let all = ap length c.waits.ensures in
    let out = c.count_over.ensures ∙ ap length c.due.ensures.over in
    let sum = count-waiting c.args.time c.self.inside.queue.waits in
    let same = ap (λ (t : WaitTable). length (still_waiting c.args.time t.waits)) c.self.view_is in omega arith

pub returns-clause-within : goal.returns-clause-within
returns-clause-within c =
    let all = ap length c.waits.ensures in
    let same = ap (λ (t : WaitTable). length t.waits) c.self.view_is in omega arith
