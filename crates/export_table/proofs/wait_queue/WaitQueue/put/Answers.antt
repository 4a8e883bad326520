use Rattle.std.proofs.Common.{◌≡◌, ℕ, List, [], ◌∷◌, ◌++◌, drop, ap, sym, subst, ◌∙◌}
use Rattle.export_table.specs.declared.waits.Wait.{Wait}
use Rattle.export_table.specs.WaitIndex.{EndsRise}
use Rattle.export_table.specs.WaitTable.{IsQueue}
use Rattle.export_table.proofs.Queued.{queue-put}
use Rattle.export_table.proofs.wait_queue.WaitQueue.put.Goals as goal

pub invariant_of-self : goal.invariant_of-self
invariant_of-self c =
    let items = c.self.inside.waits.items in
    let gone = c.self.inside.gone in
    let more = c.rises_with-self-inside.result in
    let same : c.behind.result.now ≡ drop gone items = c.behind.ensures ∙ ap (drop gone) c.deref.ensures.value in
    let R : List Wait → Type 0 = λ l. EndsRise (l ++ c.args.wait ∷ []) in
    let Q : List Wait → Type 0 = λ l. IsQueue l gone c.min-self-inside.result more in
    let N : ℕ → Type 0 = λ n. IsQueue (items ++ c.args.wait ∷ []) gone n more in
    subst Q (sym c.put.ensures.items)
    (subst N (sym c.min-self-inside.ensures)
    (queue-put items gone c.self.inside.next c.self.inside.rising more c.args.wait (λ h. subst R same (c.rises_with-self-inside.ensures h)) c.self.invariant))
