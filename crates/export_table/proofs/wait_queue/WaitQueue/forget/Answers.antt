use Rattle.std.proofs.Common.{◌≡◌, List, drop, ap, sym, subst}
use Rattle.export_table.specs.declared.waits.Wait.{Wait}
use Rattle.export_table.specs.Waits.{still_waiting}
use Rattle.export_table.specs.WaitTable.{WaitTable}
use Rattle.export_table.proofs.Indexing.{all-on}
use Rattle.export_table.proofs.wait_queue.WaitQueue.forget.Goals as goal

pub returns-then-now-self-clause-waits : goal.returns-then-now-self-clause-waits
returns-then-now-self-clause-waits c =
    let P : List Wait → Type 0 = λ l. still_waiting c.args.now l ≡ l in
    let same : drop c.self.inside.gone c.self.inside.waits.items ≡ c.args.self.now.waits = ap (λ (t : WaitTable). t.waits) c.self.view_is in
    sym (subst P same (all-on c.args.now c.self.inside.next (drop c.self.inside.gone c.self.inside.waits.items) c.if-now-self.true c.self.invariant.later))
