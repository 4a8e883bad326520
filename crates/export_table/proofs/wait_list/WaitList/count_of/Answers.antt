use Rattle.std.proofs.Common.{length, ap, sym, ◌∙◌, arith}
use Rattle.std.specs.Prelude.{filter}
use Rattle.sequence.proofs.Lists.{filter-shorter}
use Rattle.object_ids.specs.Same.{same_id}
use Rattle.export_table.specs.declared.waits.Wait.{Wait}
use Rattle.export_table.specs.Waits.{awaiting_of}
use Rattle.export_table.specs.WaitTable.{WaitTable}
use Rattle.export_table.proofs.Ends.{count-on-over, over-of}
use Rattle.export_table.proofs.wait_list.WaitList.count_of.Goals as goal

pub overflow_sub-result : goal.overflow_sub-result
overflow_sub-result c =
    let ws = c.self.inside.queue.waits in
    let of_it = λ (w : Wait). same_id w.object c.args.object.now in
    let all = c.count_of.ensures ∙ c.self.invariant.index.counted c.args.object.now in
    let out = c.count_over_of-over.ensures ∙ ap length (over-of c.args.time of_it c.due.result.now ∙ ap (filter of_it) c.due.ensures.over ∙ sym (over-of c.args.time of_it ws)) in
    let sum = count-on-over c.args.time of_it ws in omega arith

pub returns-clause-value : goal.returns-clause-value
returns-clause-value c =
    let ws = c.self.inside.queue.waits in
    let of_it = λ (w : Wait). same_id w.object c.args.object.now in
    let all = c.count_of.ensures ∙ c.self.invariant.index.counted c.args.object.now in
    let out = c.count_over_of-over.ensures ∙ ap length (over-of c.args.time of_it c.due.result.now ∙ ap (filter of_it) c.due.ensures.over ∙ sym (over-of c.args.time of_it ws)) in
    let sum = count-on-over c.args.time of_it ws in
    let same = ap (λ (t : WaitTable). length (awaiting_of c.args.time c.args.object.now t.waits)) c.self.view_is in omega arith

pub returns-clause-within : goal.returns-clause-within
returns-clause-within c =
    let all = c.count_of.ensures ∙ c.self.invariant.index.counted c.args.object.now in
    let fewer = filter-shorter (λ (w : Wait). same_id w.object c.args.object.now) c.self.inside.queue.waits in
    let same = ap (λ (t : WaitTable). length t.waits) c.self.view_is in omega arith
