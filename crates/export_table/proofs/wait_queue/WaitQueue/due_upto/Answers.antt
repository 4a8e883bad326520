use Rattle.std.proofs.Common.{◌≡◌, List, drop, ap, subst, ◌∙◌}
use Rattle.export_table.specs.declared.waits.Wait.{Wait}
use Rattle.export_table.specs.Waits.{still_waiting}
use Rattle.export_table.specs.WaitTable.{WaitTable}
use Rattle.export_table.proofs.Indexing.{all-on}
use Rattle.export_table.proofs.Ends.{rest-waits}
use Rattle.export_table.proofs.wait_queue.WaitQueue.due_upto.Goals as goal

pub returns-then-time-self-clause-rest : goal.returns-then-time-self-clause-rest
returns-then-time-self-clause-rest c =
    let P : List Wait → Type 0 = λ l. still_waiting c.args.time l ≡ l in
    let same : drop c.self.inside.gone c.self.inside.waits.items ≡ c.args.self.now.waits = ap (λ (t : WaitTable). t.waits) c.self.view_is in
    subst P same (all-on c.args.time c.self.inside.next (drop c.self.inside.gone c.self.inside.waits.items) c.if-time-self.true c.self.invariant.later)

pub returns-then-self-clause-rest : goal.returns-then-self-clause-rest
returns-then-self-clause-rest c =
    let P : List Wait → Type 0 = λ l. still_waiting c.args.time (drop c.due_front.result l) ≡ drop c.due_front.result l in
    let same : c.behind.result.now ≡ c.args.self.now.waits = c.behind.ensures ∙ ap (drop c.self.inside.gone) c.deref.ensures.value ∙ ap (λ (t : WaitTable). t.waits) c.self.view_is in
    subst P same (rest-waits c.args.time c.due_front.result c.behind.result.now c.due_front.ensures.rest)
